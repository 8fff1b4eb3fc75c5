-- The command line: three commands and their options.
use Rattle.std.specs.Prelude.{true, List, [], ◌∷◌, Some, codes}
use Rattle.clap.specs.Words.{App, Rule, Text, new_app, new_rule, with_rule}
use Rattle.clap.specs.declared.builder.action.ArgAction.TheVariants.{Set, SetTrue}
use Rattle.config.specs.declared.command.Choice.{Choice}
use Rattle.config.specs.declared.command.OptionValue.{OptionValue}
use Rattle.config.specs.declared.command.OptionValue.TheVariants as takes

-- an option without value
abbrev pub flag_rule : Text → Rule
flag_rule id = record (new_rule id) { long = Some id; action = Some SetTrue }

-- an option with a value, one that has to be given, and one with a default
abbrev pub value_rule : Text → Rule
value_rule id = record (new_rule id) { long = Some id; value_names = 1; action = Some Set }

abbrev pub needed_rule : Text → Rule
needed_rule id = record (value_rule id) { required = true }

abbrev pub default_rule : Text → Text → Rule
default_rule id value = record (value_rule id) { defaults = value ∷ [] }

-- a command before it has options, whose words stand behind its name, and one with more options
abbrev pub bare_app : Text → App
bare_app name = record { top = record (new_app name).top { no_binary_name = true }; subs = [] }

abbrev pub with_rules : App → List Rule → App
with_rules app [] = app
with_rules app (rule ∷ rules) = with_rules (with_rule app rule) rules

-- the options of `pipe` and `table`, and those of `serve`
abbrev pub stream_rules : List Rule
stream_rules = flag_rule (codes "grace") ∷ default_rule (codes "name") (codes "server") ∷ value_rule (codes "db") ∷ []

abbrev pub serve_rules : List Rule
serve_rules =
    needed_rule (codes "port") ∷ needed_rule (codes "local-port")
    ∷ needed_rule (codes "peer-nlm-port") ∷ needed_rule (codes "peer-nsm-port") ∷ needed_rule (codes "watch-port")
    ∷ needed_rule (codes "db") ∷ needed_rule (codes "peers")
    ∷ default_rule (codes "name") (codes "server") ∷ default_rule (codes "bind") (codes "0.0.0.0")
    ∷ default_rule (codes "grace-seconds") (codes "45") ∷ default_rule (codes "silence-seconds") (codes "5") ∷ default_rule (codes "idle-seconds") (codes "600")
    ∷ default_rule (codes "workers") (codes "4")
    ∷ default_rule (codes "connections") (codes "256") ∷ value_rule (codes "connections-per-peer")
    ∷ value_rule (codes "notify-port")
    ∷ flag_rule (codes "audit") ∷ flag_rule (codes "ask-port-mapper") ∷ flag_rule (codes "register")
    ∷ flag_rule (codes "poll-ends-grant") ∷ flag_rule (codes "learn") ∷ flag_rule (codes "known-hosts-only")
    ∷ flag_rule (codes "lock-state-tells-reboot") ∷ value_rule (codes "status-port") ∷ []

-- `lockd pipe`, `lockd table` and `lockd serve`
abbrev pub pipe_app : App
pipe_app = with_rules (bare_app (codes "lockd pipe")) stream_rules

abbrev pub table_app : App
table_app = with_rules (bare_app (codes "lockd table")) stream_rules

abbrev pub serve_app : App
serve_app = with_rules (bare_app (codes "lockd serve")) serve_rules

-- ---- the code's options as rules

abbrev pub view_of_takes : Text → OptionValue → Rule
view_of_takes id takes.Nothing = flag_rule id
view_of_takes id (takes.Value shown) = value_rule id
view_of_takes id (takes.Needed shown) = needed_rule id
view_of_takes id (takes.Default shown value) = default_rule id value.now

abbrev pub view_of_choice : Choice → Rule
view_of_choice choice = view_of_takes choice.name.now choice.takes
