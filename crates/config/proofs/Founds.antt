-- What a parse found, and what is read of it.
use Rattle.std.proofs.Common.{◌≡◌, List, Option, Some, None, refl, sym, ◌∙◌, ap}
use Rattle.std.specs.Option.{option_map}
use Rattle.std.specs.Prelude.{Err}
use Rattle.std.specs.Borrow.{Bor}
use Rattle.clap.specs.Words.{Row, Text, first_of, first_value, rows_of}
use Rattle.clap.specs.declared.parser.matches.Found.{Found}
use Rattle.clap.proofs.WalkLemmas.{first_value-rows}
use Rattle.config.specs.Settings.{optional_setting}
use Rattle.config.specs.Reads.{Reads, IsWrong}
use Rattle.config.specs.declared.settings.Unread.{Unread}
use Rattle.config.specs.declared.settings.Unread.TheVariants as unread

-- a text that was found is that of the rows
pub found_some : (f : Found) (id : Text) (r : Option (Bor Text)) (s : Bor Text) → option_map (λ x. x.now) r ≡ first_value f id → r ≡ Some s → first_of id (rows_of f) ≡ Some s.now
found_some f id r s e is = sym (first_value-rows f id) ∙ (sym e ∙ ap (option_map (λ (x : Bor Text). x.now)) is)

pub found_none : (f : Found) (id : Text) (r : Option (Bor Text)) → option_map (λ x. x.now) r ≡ first_value f id → r ≡ None → first_of id (rows_of f) ≡ None
found_none f id r e is = sym (first_value-rows f id) ∙ (sym e ∙ ap (option_map (λ (x : Bor Text). x.now)) is)

pub Reads-none : {X Y : Type 0} (view : X → Y) (u : Unread) (read : Option Y) → IsWrong u → read ≡ None → Reads view (Err u) read
Reads-none view unread.Starved read w e = absurd w
Reads-none view (unread.Wrong x) read w e = e

-- a setting that need not be given
pub optional_setting-some : {X : Type 0} (read : Text → Option X) (id : Text) (rows : List Row) (text : Text) → first_of id rows ≡ Some text → optional_setting read id rows ≡ option_map Some (read text)
optional_setting-some read id rows text e = rw (optional_setting, e) refl

pub optional_setting-none : {X : Type 0} (read : Text → Option X) (id : Text) (rows : List Row) → first_of id rows ≡ None → optional_setting read id rows ≡ Some None
optional_setting-none read id rows e = rw (optional_setting, e) refl
