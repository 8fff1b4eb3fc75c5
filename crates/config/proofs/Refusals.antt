-- Where nothing is asked.
use Rattle.std.proofs.Common.{◌≡◌, List, [], ◌∷◌, length, map, arith, true, inl, inr, Option, Some, None, refl, sym, subst}
use Rattle.std.specs.Prelude.{Result, Ok, Err, IsOkAnd, IsErrAnd, MatchResult, codes}
use Rattle.std.proofs.lemmas.Bool.{and_parts}
use Rattle.clap.specs.Words.{App, Row, Text, found_of, matches_of, rows_of, is_simple, is_simple_and_free, kind_of, HasKind, HasMatchesOf, Kinds}
use Rattle.clap.specs.declared.error.Error.{Error}
use Rattle.clap.specs.declared.parser.matches.ArgMatches.{ArgMatches}
use Rattle.std.specs.declared.net.ip_addr.IpAddr.{IpAddr}
use Rattle.config.specs.Reads.{IsBound, IsWrong, Reads, ReadsAddress, ReadsServe, serve_in}
use Rattle.clap.specs.declared.error.kind.ErrorKind.TheVariants.{OutOfMemory}
use Rattle.config.specs.Lockd.{pipe_app, table_app, serve_app}
use Rattle.config.specs.Asked.{Answers, Asks, AsksBy, verb_in, AsksStream, AsksServe, IsFaultOf}
use Rattle.config.specs.declared.settings.Config.{Config}
use Rattle.config.specs.declared.settings.Config.TheVariants as config
use Rattle.config.specs.declared.command.Verb.{Verb}
use Rattle.config.specs.declared.command.Verb.TheVariants as verb
use Rattle.config.specs.declared.settings.StreamConfig.{StreamConfig}
use Rattle.config.specs.declared.fault.ConfigFault.{ConfigFault}
use Rattle.config.specs.declared.fault.ConfigFault.TheVariants as fault
use Rattle.config.specs.declared.settings.Unread.{Unread}
use Rattle.config.specs.declared.settings.Unread.TheVariants as unread
use Rattle.config.specs.declared.settings.ServeConfig.{ServeConfig}

-- where no address is read, nothing is
none_for : (u : Unread) (rows : List Row) → ReadsAddress (Err u) (codes "bind") rows → ReadsServe (Err u) rows
none_for unread.Starved rows h = tt
none_for (unread.Wrong w) rows h = λ address bound. absurd (h address bound)

pub bound_none : (u : Unread) (r : Result ServeConfig Unread) (rows : List Row) → ReadsAddress (Err u) (codes "bind") rows → IsErrAnd r (λ e. e ≡ u) → ReadsServe r rows
bound_none u (Ok config) rows h e = absurd e
bound_none u (Err x) rows h e = subst (λ (y : Unread). ReadsServe (Err y) rows) (sym e) (none_for u rows h)

-- a fault where nothing is asked
pub unasked : {X : Type 0} (asks : X → Type 0) (f : ConfigFault) → ((x : X) → asks x → ⊥) → Answers asks (Err f)
unasked asks fault.Starved h = tt
unasked asks (fault.Refused e) h = h

-- a setting that isn't read is refused, but for want of memory
pub unread_refused : {X : Type 0} (asks : X → Type 0) (u : Unread) (f : ConfigFault) → (u ≡ unread.Starved → f ≡ fault.Starved) → (IsWrong u → (x : X) → asks x → ⊥) → Answers asks (Err f)
unread_refused asks unread.Starved f h k = subst (λ (g : ConfigFault). Answers asks (Err g)) (sym (h refl)) tt
unread_refused asks (unread.Wrong w) f h k = unasked asks f (k tt)

pub none_read : {X : Type 0} (u : Unread) (read : Option X) → Reads (λ (x : X). x) (Err u) read → IsWrong u → read ≡ None
none_read unread.Starved read h w = absurd w
none_read (unread.Wrong x) read h w = h

pub none_served : (u : Unread) (rows : List Row) → ReadsServe (Err u) rows → IsWrong u → (address : IpAddr) → IsBound rows address → serve_in address rows ≡ None
none_served unread.Starved rows h w = absurd w
none_served (unread.Wrong x) rows h w = h

none_among : (kinds : Kinds) (e : Error) → kinds ≡ [] → HasKind kinds e → (kind_of e ≡ OutOfMemory → ⊥) → ⊥
none_among kinds e is (inl starved) other = other starved
none_among [] e is (inr among) other = among
none_among (k ∷ kinds) e is (inr among) other = absurd cc

-- a parse fails where a word is wrong
pub parse_refused : {X : Type 0} (asks : X → Type 0) (kinds : Kinds) (e : Error) (r : Result X ConfigFault) → ((x : X) → asks x → kinds ≡ []) → HasKind kinds e → IsErrAnd r (IsFaultOf e) → Answers asks r
parse_refused asks kinds e (Ok x) none has is = absurd is
parse_refused asks kinds e (Err fault.Starved) none has is = tt
parse_refused asks kinds e (Err (fault.Refused f)) none has is = λ x asked. none_among kinds e (none x asked) has is

pub some_none : {X : Type 0} (o p : Option X) (x : X) → o ≡ p → o ≡ None → p ≡ Some x → ⊥
some_none None (Some y) x same e is = absurd cc
some_none None None x same e is = absurd cc
some_none (Some y) p x same e is = absurd cc

-- the same fault, where less is asked
pub Answers-fault : {X Y : Type 0} (asks : X → Type 0) (others : Y → Type 0) (f : ConfigFault) → ((y : Y) → others y → (x : X) × asks x) → Answers asks (Err f) → Answers others (Err f)
Answers-fault asks others fault.Starved h a = tt
Answers-fault asks others (fault.Refused e) h a = λ y other. let p = h y other in a p.0 p.1

-- the same answer, in what else is made of it
pub Answers-mapped : {X Y : Type 0} (asks : X → Type 0) (others : Y → Type 0) (r : Result X ConfigFault) (s : Result Y ConfigFault) (f : X → Y) →
    MatchResult r (λ x. IsOkAnd s (λ y. y ≡ f x)) (λ e. s ≡ Err e) → ((x : X) → asks x → others (f x)) → ((y : Y) → others y → (x : X) × asks x) →
    Answers asks r → Answers others s
Answers-mapped asks others (Ok x) (Ok y) f m up down a = subst others (sym m) (up x a)
Answers-mapped asks others (Ok x) (Err e) f m up down a = absurd m
Answers-mapped asks others (Err e) s f m up down a = subst (λ (t : Result _ ConfigFault). Answers others t) (sym m) (Answers-fault asks others e down a)

pub as_pipe : (words : List Text) (c : Config) → AsksBy (Some verb.Pipe) words c → (s : StreamConfig) × AsksStream pipe_app words s
as_pipe words (config.Pipe s) h = (s, h)
as_pipe words (config.Table s) h = absurd h
as_pipe words (config.Serve s) h = absurd h

pub as_table : (words : List Text) (c : Config) → AsksBy (Some verb.Table) words c → (s : StreamConfig) × AsksStream table_app words s
as_table words (config.Pipe s) h = absurd h
as_table words (config.Table s) h = (s, h)
as_table words (config.Serve s) h = absurd h

pub as_serve : (words : List Text) (c : Config) → AsksBy (Some verb.Serve) words c → (s : ServeConfig) × AsksServe serve_app words s
as_serve words (config.Pipe s) h = absurd h
as_serve words (config.Table s) h = absurd h
as_serve words (config.Serve s) h = (s, h)

pub asks_first : (words rest : List Text) (word : Text) (v : Verb) (r : Result Config ConfigFault) → words ≡ word ∷ rest → verb_in word ≡ Some v → Answers (AsksBy (Some v) rest) r → Answers (Asks words) r
asks_first words rest word v r e is h =
    subst (λ (ws : List Text). Answers (Asks ws) r) (sym e) (subst (λ (o : Option Verb). Answers (AsksBy o rest) r) (sym is) h)

-- ---- the three commands are of the kind whose matches are known

-- what was found is the matches of the words
pub rows_are : (app : App) (words : List Text) (m : ArgMatches) → is_simple_and_free app ≡ true → HasMatchesOf app words m → rows_of (found_of m) ≡ matches_of app words
rows_are app words m simple has = (has (and_parts (is_simple app) _ simple).0).0

-- where no command is named, nothing is asked
pub none_asked : (asks : Config → Type 0) (words : List Text) (r : Result Config ConfigFault) → ((x : Config) → asks x → ⊥) → Answers (AsksBy None words) r → Answers asks r
none_asked asks words (Ok x) h a = absurd a
none_asked asks words (Err f) h a = unasked asks f h

pub asks_none : (words rest : List Text) (word : Text) (r : Result Config ConfigFault) → words ≡ word ∷ rest → verb_in word ≡ None → Answers (AsksBy None words) r → Answers (Asks words) r
asks_none words rest word r e is h =
    subst (λ (ws : List Text). Answers (Asks ws) r) (sym e)
    (subst (λ (o : Option Verb). Answers (AsksBy o rest) r) (sym is) (none_asked (AsksBy None rest) words r (λ x asked. asked) h))

pub asks_nothing : {A : Type 0} (text : A → Text) (words : List A) (r : Result Config ConfigFault) → length words ≡ 0 → Answers (AsksBy None (map text words)) r → Answers (Asks (map text words)) r
asks_nothing text [] r e h = none_asked (Asks []) [] r (λ x asked. asked) h
asks_nothing text (w ∷ ws) r e h = absurd (omega (arith, e))
