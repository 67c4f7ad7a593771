-- The command line, in the words of clap: `replay [--store STORE]`;
-- `serve [--port PORT] [--turns TURNS] --outbox PATH [--scheme FILE] [--read-ms MILLIS] [--write-ms MILLIS] [--rounds N] [--until FILE] [--patience N] [--round-ms MILLIS] [--ask PORT]`;
-- and of the stores at a path `close --outbox PATH [--scheme FILE]`, `bill --outbox PATH [--scheme FILE] --owner O --day D`,
-- `settle` with the same words, `stand --outbox PATH [--scheme FILE]`,
-- `retire --outbox PATH [--scheme FILE] --owner O --device D`, and `forget --outbox PATH [--scheme FILE] --before D`;
-- and of what is kept beside an outbox `scheme --outbox PATH`.
use Rattle.std.specs.Prelude.{◌≡◌, ℕ, Some, false, true, codes, pos}
use Rattle.clap.specs.Words.{App, Rule, Text, app_of, new_app, new_rule, rule_of, with_rule, with_subcommand}
use Rattle.clap.specs.declared.builder.arg.Arg.{Arg}
use Rattle.clap.specs.declared.builder.command.Command.{Command}
use Rattle.clap.specs.declared.builder.command.Command.TheViews.{out-Command}
use Rattle.clap.specs.declared.builder.ArgAction.TheVariants.{Set}
use Rattle.clap.specs.declared.builder.value_parser.ValueParser.TheVariants as vp

-- a command of clap's is this one, with no option that its subcommands have too
abbrev pub IsMade : App → Command → Type 0
IsMade app c = (app_of c ≡ app) × ((out-Command c).has_globals ≡ false)

-- an option of clap's is one by this rule, and only the command's own
abbrev pub IsOption : Rule → Arg → Type 0
IsOption rule arg = (rule_of arg ≡ rule) × (arg.global ≡ false)

-- an option with one value, written `--NAME VALUE`
abbrev pub option_rule : Text → Rule
option_rule name = record (new_rule name) { long = Some name; action = Some Set; value_names = 1 }

-- and that one is a number from 1 to this one
abbrev pub number_rule : Text → ℕ → Rule
number_rule name most = record (option_rule name) { parser = Some (vp.Signed (pos 1) (pos most)) }

-- or a port
abbrev pub port_number_rule : Text → Rule
port_number_rule name = record (option_rule name) { parser = Some (vp.Signed (pos 0) (pos 65535)) }

abbrev pub store_rule : Rule
store_rule = option_rule (codes "store")

abbrev pub port_rule : Rule
port_rule = record (option_rule (codes "port")) { parser = Some (vp.Signed (pos 0) (pos 65535)) }

abbrev pub ask_rule : Rule
ask_rule = record (option_rule (codes "ask")) { parser = Some (vp.Signed (pos 0) (pos 65535)) }

abbrev pub turns_rule : Rule
turns_rule = record (option_rule (codes "turns")) { parser = Some (vp.Signed (pos 1) (pos 1000000000)) }

abbrev pub outbox_rule : Rule
outbox_rule = record (option_rule (codes "outbox")) { required = true }

abbrev pub scheme_rule : Rule
scheme_rule = option_rule (codes "scheme")

-- a number of milliseconds, 1 to 60,000
abbrev pub millis_rule : Text → Rule
millis_rule name = record (option_rule name) { parser = Some (vp.Signed (pos 1) (pos 60000)) }

abbrev pub read_rule : Rule
read_rule = millis_rule (codes "read-ms")

abbrev pub write_rule : Rule
write_rule = millis_rule (codes "write-ms")

abbrev pub rounds_rule : Rule
rounds_rule = record (option_rule (codes "rounds")) { parser = Some (vp.Signed (pos 1) (pos 4294967295)) }

abbrev pub until_rule : Rule
until_rule = option_rule (codes "until")

abbrev pub patience_rule : Rule
patience_rule = record (option_rule (codes "patience")) { parser = Some (vp.Signed (pos 1) (pos 1000000000)) }

abbrev pub round_rule : Rule
round_rule = millis_rule (codes "round-ms")

abbrev pub owner_rule : Rule
owner_rule = record (option_rule (codes "owner")) { required = true; parser = Some (vp.Signed (pos 1) (pos 65535)) }

-- a day that has to be given
abbrev pub day_rule : Text → Rule
day_rule name = record (option_rule name) { required = true; parser = Some (vp.Signed (pos 0) (pos 100000)) }

abbrev pub device_rule : Rule
device_rule = record (option_rule (codes "device")) { required = true; parser = Some (vp.Signed (pos 1) (pos 4294967295)) }

-- REPLAY
abbrev pub replay_app : App
replay_app = with_rule (new_app (codes "replay")) store_rule

-- SERVE
-- where it listens, how often it tries, and where its stores and its scheme lie
abbrev pub plain_serve_app : App
plain_serve_app = with_rule (with_rule (with_rule (with_rule (new_app (codes "serve")) port_rule) turns_rule) outbox_rule) scheme_rule

-- and how long it waits
abbrev pub waiting_serve_app : App
waiting_serve_app = with_rule (with_rule plain_serve_app read_rule) write_rule

-- and how often it begins again
abbrev pub lasting_serve_app : App
lasting_serve_app = with_rule (with_rule (with_rule (with_rule waiting_serve_app rounds_rule) until_rule) patience_rule) round_rule

-- and where it answers its operator
abbrev pub serve_app : App
serve_app = with_rule lasting_serve_app ask_rule

-- QUESTIONS
-- of the stores at a path, for a scheme
abbrev pub stores_app : Text → App
stores_app name = with_rule (with_rule (new_app name) outbox_rule) scheme_rule

-- and of an owner's day
abbrev pub day_app : Text → App
day_app name = with_rule (with_rule (stores_app name) owner_rule) (day_rule (codes "day"))

-- and of an owner's lane of a device
abbrev pub lane_app : Text → App
lane_app name = with_rule (with_rule (stores_app name) owner_rule) device_rule

-- and of the days before one
abbrev pub days_app : Text → App
days_app name = with_rule (stores_app name) (day_rule (codes "before"))

-- A KEPT SCHEME
-- beside an outbox
abbrev pub scheme_app : App
scheme_app = with_rule (new_app (codes "scheme")) outbox_rule

-- ALL
-- the words are those after the program's name, one is a subcommand, and there is a version
abbrev pub base_app : App
base_app =
    let a = new_app (codes "fare_hub") in
    record a { top = record a.top { no_binary_name = true; subcommand_required = true; has_version = true } }

abbrev pub running_app : App
running_app = with_subcommand (with_subcommand base_app replay_app.top) serve_app.top

abbrev pub asking_app : App
asking_app = with_subcommand (with_subcommand running_app (stores_app (codes "close")).top) (day_app (codes "bill")).top

abbrev pub standing_app : App
standing_app = with_subcommand (with_subcommand asking_app (day_app (codes "settle")).top) (stores_app (codes "stand")).top

abbrev pub ordering_app : App
ordering_app = with_subcommand standing_app (lane_app (codes "retire")).top

abbrev pub letting_app : App
letting_app = with_subcommand ordering_app (days_app (codes "forget")).top

abbrev pub hub_app : App
hub_app = with_subcommand letting_app scheme_app.top
