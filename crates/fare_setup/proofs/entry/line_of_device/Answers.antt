use Rattle.fare_setup.proofs.Entries.{device_at}
use Rattle.fare_setup.proofs.entry.line_of_device.Goals as goal

pub returns : goal.returns
returns c =
    device_at c.args.scheme.now.devices c.in_ok-device.device c.args.position c.in_ok-station.station c.in_ok-buffer.buffer c.get.result c.get-2.result c.in_ok-device.ensures.value c.in_ok-device.ensures.placed
    c.in_ok-station.ensures.value c.in_ok-buffer.ensures.value c.get.ensures.value c.get-2.ensures.value
