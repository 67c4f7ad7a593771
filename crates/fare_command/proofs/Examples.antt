-- What clap says of some words, computed.
use Rattle.std.proofs.Common.{◌≡◌, refl, [], ◌∷◌, codes}
use Rattle.clap.specs.Faults.{fault_of}
use Rattle.clap.specs.declared.error.kind.ErrorKind.TheVariants as kind
use Rattle.clap.proofs.OnLiterals.{clap_on_literals}
use Rattle.fare_command.specs.CommandLine.{hub_app}

replay : fault_of hub_app (codes "replay" ∷ []) ≡ []
unfolding clap_on_literals
replay = refl

serve : fault_of hub_app (codes "serve" ∷ codes "--port" ∷ codes "65535" ∷ codes "--turns" ∷ codes "1" ∷ codes "--outbox" ∷ codes "x" ∷ []) ≡ []
unfolding clap_on_literals
serve = refl

help : fault_of hub_app (codes "--help" ∷ []) ≡ kind.DisplayHelp ∷ []
unfolding clap_on_literals
help = refl

help_of_replay : fault_of hub_app (codes "replay" ∷ codes "--help" ∷ []) ≡ kind.DisplayHelp ∷ []
unfolding clap_on_literals
help_of_replay = refl

version : fault_of hub_app (codes "--version" ∷ []) ≡ kind.DisplayVersion ∷ []
unfolding clap_on_literals
version = refl

no_command : fault_of hub_app [] ≡ kind.MissingSubcommand ∷ []
unfolding clap_on_literals
no_command = refl

plain_serve : fault_of hub_app (codes "serve" ∷ codes "--outbox" ∷ codes "x" ∷ []) ≡ []
unfolding clap_on_literals
plain_serve = refl

no_outbox : fault_of hub_app (codes "serve" ∷ codes "--port" ∷ codes "0" ∷ codes "--turns" ∷ codes "1" ∷ []) ≡ kind.MissingRequiredArgument ∷ []
unfolding clap_on_literals
no_outbox = refl

no_port : fault_of hub_app (codes "serve" ∷ codes "--port" ∷ codes "65536" ∷ codes "--outbox" ∷ codes "x" ∷ []) ≡ kind.ValueValidation ∷ []
unfolding clap_on_literals
no_port = refl

no_turns : fault_of hub_app (codes "serve" ∷ codes "--port" ∷ codes "0" ∷ codes "--turns" ∷ codes "0" ∷ codes "--outbox" ∷ codes "x" ∷ []) ≡ kind.ValueValidation ∷ []
unfolding clap_on_literals
no_turns = refl

waits : fault_of hub_app (codes "serve" ∷ codes "--port" ∷ codes "1" ∷ codes "--turns" ∷ codes "1" ∷ codes "--outbox" ∷ codes "x" ∷ codes "--read-ms" ∷ codes "5" ∷ codes "--write-ms" ∷ codes "60000" ∷ []) ≡ []
unfolding clap_on_literals
waits = refl

no_wait : fault_of hub_app (codes "serve" ∷ codes "--port" ∷ codes "1" ∷ codes "--turns" ∷ codes "1" ∷ codes "--outbox" ∷ codes "x" ∷ codes "--read-ms" ∷ codes "0" ∷ []) ≡ kind.ValueValidation ∷ []
unfolding clap_on_literals
no_wait = refl

rounds : fault_of hub_app (codes "serve" ∷ codes "--port" ∷ codes "1" ∷ codes "--turns" ∷ codes "1" ∷ codes "--outbox" ∷ codes "x" ∷ codes "--rounds" ∷ codes "4294967295" ∷ codes "--until" ∷ codes "y" ∷ []) ≡ []
unfolding clap_on_literals
rounds = refl

round_ends : fault_of hub_app (codes "serve" ∷ codes "--port" ∷ codes "1" ∷ codes "--turns" ∷ codes "1" ∷ codes "--outbox" ∷ codes "x" ∷ codes "--round-ms" ∷ codes "60000" ∷ []) ≡ []
unfolding clap_on_literals
round_ends = refl

no_round : fault_of hub_app (codes "serve" ∷ codes "--port" ∷ codes "1" ∷ codes "--turns" ∷ codes "1" ∷ codes "--outbox" ∷ codes "x" ∷ codes "--round-ms" ∷ codes "0" ∷ []) ≡ kind.ValueValidation ∷ []
unfolding clap_on_literals
no_round = refl

asks : fault_of hub_app (codes "serve" ∷ codes "--outbox" ∷ codes "x" ∷ codes "--ask" ∷ codes "65535" ∷ []) ≡ []
unfolding clap_on_literals
asks = refl

no_ask : fault_of hub_app (codes "serve" ∷ codes "--outbox" ∷ codes "x" ∷ codes "--ask" ∷ codes "65536" ∷ []) ≡ kind.ValueValidation ∷ []
unfolding clap_on_literals
no_ask = refl

scheme : fault_of hub_app (codes "serve" ∷ codes "--scheme" ∷ codes "y" ∷ codes "--outbox" ∷ codes "x" ∷ []) ≡ []
unfolding clap_on_literals
scheme = refl

scheme_of_stores : fault_of hub_app (codes "stand" ∷ codes "--outbox" ∷ codes "x" ∷ codes "--scheme" ∷ codes "y" ∷ []) ≡ []
unfolding clap_on_literals
scheme_of_stores = refl

scheme_of_input : fault_of hub_app (codes "stand" ∷ codes "--outbox" ∷ codes "x" ∷ codes "--scheme" ∷ codes "-" ∷ []) ≡ []
unfolding clap_on_literals
scheme_of_input = refl

bill : fault_of hub_app (codes "bill" ∷ codes "--outbox" ∷ codes "x" ∷ codes "--owner" ∷ codes "65535" ∷ codes "--day" ∷ codes "0" ∷ []) ≡ []
unfolding clap_on_literals
bill = refl

no_owner : fault_of hub_app (codes "settle" ∷ codes "--outbox" ∷ codes "x" ∷ codes "--owner" ∷ codes "0" ∷ codes "--day" ∷ codes "0" ∷ []) ≡ kind.ValueValidation ∷ []
unfolding clap_on_literals
no_owner = refl

no_day : fault_of hub_app (codes "bill" ∷ codes "--outbox" ∷ codes "x" ∷ codes "--owner" ∷ codes "1" ∷ []) ≡ kind.MissingRequiredArgument ∷ []
unfolding clap_on_literals
no_day = refl

retire : fault_of hub_app (codes "retire" ∷ codes "--outbox" ∷ codes "x" ∷ codes "--owner" ∷ codes "1" ∷ codes "--device" ∷ codes "4294967295" ∷ []) ≡ []
unfolding clap_on_literals
retire = refl

no_device : fault_of hub_app (codes "retire" ∷ codes "--outbox" ∷ codes "x" ∷ codes "--owner" ∷ codes "1" ∷ codes "--device" ∷ codes "0" ∷ []) ≡ kind.ValueValidation ∷ []
unfolding clap_on_literals
no_device = refl

forget : fault_of hub_app (codes "forget" ∷ codes "--outbox" ∷ codes "x" ∷ codes "--before" ∷ codes "100000" ∷ []) ≡ []
unfolding clap_on_literals
forget = refl

no_before : fault_of hub_app (codes "forget" ∷ codes "--outbox" ∷ codes "x" ∷ []) ≡ kind.MissingRequiredArgument ∷ []
unfolding clap_on_literals
no_before = refl

no_stores : fault_of hub_app (codes "close" ∷ []) ≡ kind.MissingRequiredArgument ∷ []
unfolding clap_on_literals
no_stores = refl

kept : fault_of hub_app (codes "scheme" ∷ codes "--outbox" ∷ codes "x" ∷ []) ≡ []
unfolding clap_on_literals
kept = refl

kept_nowhere : fault_of hub_app (codes "scheme" ∷ []) ≡ kind.MissingRequiredArgument ∷ []
unfolding clap_on_literals
kept_nowhere = refl

kept_with_scheme : fault_of hub_app (codes "scheme" ∷ codes "--outbox" ∷ codes "x" ∷ codes "--scheme" ∷ codes "y" ∷ []) ≡ kind.UnknownArgument ∷ []
unfolding clap_on_literals
kept_with_scheme = refl
