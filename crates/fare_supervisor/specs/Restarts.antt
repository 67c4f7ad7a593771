-- Which restart answers a fault.
use Rattle.fare_supervisor.specs.declared.decision.Fault.{Fault}
use Rattle.fare_supervisor.specs.declared.decision.Fault.TheVariants.{Station, Writer, Outbox, Owner}
use Rattle.fare_supervisor.specs.declared.decision.Action.{Action}
use Rattle.fare_supervisor.specs.declared.decision.Action.TheVariants.{RestartStation, RestartHub, RestartOwner}

-- a station and an owner are restarted alone; the writer and the outbox with the whole hub
abbrev pub restart_of : Fault → Action
restart_of (Station station) = RestartStation station
restart_of Writer = RestartHub
restart_of Outbox = RestartHub
restart_of (Owner owner) = RestartOwner owner
