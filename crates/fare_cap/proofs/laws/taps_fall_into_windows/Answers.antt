use Rattle.fare_cap.proofs.WindowLaws.{taps_fall_into_windows, all_are_paid_without_windows}
use Rattle.fare_cap.proofs.laws.taps_fall_into_windows.Goals as goal

pub returns-clause-windows : goal.returns-clause-windows
returns-clause-windows c = taps_fall_into_windows

pub returns-clause-none : goal.returns-clause-none
returns-clause-none c = all_are_paid_without_windows
