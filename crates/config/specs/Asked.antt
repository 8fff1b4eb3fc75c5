-- What a command line asks: which command its first word names, and what the words behind it give.
use Rattle.std.specs.Prelude.{◌≡◌, ◌≢◌, ◌⊎◌, ℕ, cond, List, [], ◌∷◌, Option, Some, None, Result, Ok, Err, codes, bytes_eq}
use Rattle.clap.specs.Words.{App, Text, fault_of, kind_of, matches_of}
use Rattle.clap.specs.declared.error.Error.{Error}
use Rattle.clap.specs.declared.error.kind.ErrorKind.TheVariants.{DisplayHelp, DisplayVersion, OutOfMemory}
use Rattle.config.specs.Lockd.{pipe_app, table_app, serve_app}
use Rattle.config.specs.Reads.{IsBound, stream_in, serve_in}
use Rattle.config.specs.declared.fault.ConfigFault.{ConfigFault}
use Rattle.config.specs.declared.fault.ConfigFault.TheVariants as fault
use Rattle.config.specs.declared.settings.Config.{Config}
use Rattle.config.specs.declared.settings.Config.TheVariants as config
use Rattle.config.specs.declared.command.Verb.{Verb}
use Rattle.config.specs.declared.command.Verb.TheVariants as verb
use Rattle.config.specs.declared.settings.StreamConfig.{StreamConfig}
use Rattle.config.specs.declared.settings.ServeConfig.{ServeConfig}

-- a fault that a parse gives
abbrev pub IsFaultOf : Error → ConfigFault → Type 0
IsFaultOf e fault.Starved = kind_of e ≡ OutOfMemory
IsFaultOf e (fault.Refused refused) = kind_of e ≢ OutOfMemory

-- the exit status: help and the version are no mistake
abbrev pub HasStatus : ConfigFault → ℕ → Type 0
HasStatus fault.Starved status = status ≡ 1
HasStatus (fault.Refused e) status =
    ((kind_of e ≡ DisplayHelp) ⊎ (kind_of e ≡ DisplayVersion) → status ≡ 0) × (kind_of e ≢ DisplayHelp → kind_of e ≢ DisplayVersion → status ≡ 2)

-- no word behind the command is wrong, and they give these settings
abbrev pub AsksStream : App → List Text → StreamConfig → Type 0
AsksStream app words config = (fault_of app words ≡ []) × (stream_in (matches_of app words) ≡ Some config)

abbrev pub AsksServe : App → List Text → ServeConfig → Type 0
AsksServe app words config =
    (fault_of app words ≡ []) × (IsBound (matches_of app words) config.bind × (serve_in config.bind (matches_of app words) ≡ Some config))

unfoldable pub verb_in : Text → Option Verb
verb_in text =
    cond (bytes_eq text (codes "pipe")) (Some verb.Pipe)
    (cond (bytes_eq text (codes "table")) (Some verb.Table) (cond (bytes_eq text (codes "serve")) (Some verb.Serve) None))

abbrev pub AsksBy : Option Verb → List Text → Config → Type 0
AsksBy (Some verb.Pipe) words (config.Pipe stream) = AsksStream pipe_app words stream
AsksBy (Some verb.Table) words (config.Table stream) = AsksStream table_app words stream
AsksBy (Some verb.Serve) words (config.Serve serve) = AsksServe serve_app words serve
AsksBy _ words config = ⊥

-- the words behind the program's name ask this
abbrev pub Asks : List Text → Config → Type 0
Asks [] config = ⊥
Asks (word ∷ words) config = AsksBy (verb_in word) words config

-- what is asked is returned. Nothing is asked where it is refused
abbrev pub Answers : {X : Type 0} → (X → Type 0) → Result X ConfigFault → Type 0
Answers asks (Ok x) = asks x
Answers {X} asks (Err fault.Starved) = Unit {0}
Answers {X} asks (Err (fault.Refused e)) = (x : X) → asks x → ⊥
