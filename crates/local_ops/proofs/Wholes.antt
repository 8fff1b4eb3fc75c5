-- A line is read as what it spells, and as nothing else.
use Rattle.std.proofs.Common.{◌≡◌, ℕ, ◌<◌, ◌≤◌, ◌^◌, List, [], ◌∷◌, Option, Some, refl, ap, subst, ◌∙◌}
use Rattle.std.specs.Fmt.{decimal}
use Rattle.std.proofs.lemmas.Option.{same_Some}
use Rattle.definitions.specs.Bytes.{Bytes}
use Rattle.definitions.specs.Owners.{Owner}
use Rattle.definitions.specs.Settings.{Mode}
use Rattle.definitions.specs.Outgoing.{LocalLock}
use Rattle.local_ops.specs.Texts.{owner_text}
use Rattle.local_ops.specs.Grammar.{IsLocalOwner, SpellsHex, SpellsFile, change_text}
use Rattle.local_ops.specs.Reading.{number_in, owner_in, hex_in, runs_in, change_in, first_field, owned_in, quota_in, lock_in}
use Rattle.local_ops.proofs.Numbers.{number_parts, number_read}
use Rattle.local_ops.proofs.Fieldwise.{bind_some, first_some, first_read, owner_parts, owner_read, hex_parts, hex_read, runs_parts, runs_read, change_parts, change_read}

-- ---- OWNER FH

abbrev pub OwnedRead : Type 0
OwnedRead = (Owner × Bytes) × List Bytes

pub record Owned (fields : List Bytes) (read : OwnedRead) : Type 0 where
  pub local : IsLocalOwner read.0.0
  pub text : Bytes
  pub file_is : SpellsFile text read.0.1
  pub whole : fields ≡ owner_text read.0.0 ∷ text ∷ read.1

pub owned_parts : (fields : List Bytes) (read : OwnedRead) → owned_in fields ≡ Some read → Owned fields read
unfolding owned_in
owned_parts fields read e =
    let a = bind_some (first_field owner_in fields) _ read e in
    let b = bind_some (first_field (hex_in 128) a.0.1) _ read a.2 in
    let first = first_some owner_in fields a.0.0 a.0.1 a.1 in
    let second = first_some (hex_in 128) a.0.1 b.0.0 b.0.1 b.1 in
    let owner = owner_parts first.0 a.0.0 first.2 in
    subst (Owned fields) (same_Some ((a.0.0, b.0.0), b.0.1) read b.2)
    (record {
      local = owner.0;
      text = second.0;
      file_is = hex_parts 128 second.0 b.0.0 second.2;
      whole = first.1 ∙ (ap (λ (f : Bytes). f ∷ a.0.1) owner.1 ∙ ap (λ (fs : List Bytes). owner_text a.0.0 ∷ fs) second.1);
    })

pub owned_read : (owner : Owner) (text file : Bytes) (rest : List Bytes) → IsLocalOwner owner → SpellsFile text file
    → owned_in (owner_text owner ∷ text ∷ rest) ≡ Some ((owner, file), rest)
unfolding owned_in
owned_read owner text file rest local spells =
    rw (first_read owner_in (owner_text owner) (text ∷ rest) owner (owner_read owner local))
    (rw (first_read (hex_in 128) text rest file (hex_read 128 text file spells)) refl)

-- ---- OWNER FH MODE FIRST LEN

abbrev pub LockRead : Type 0
LockRead = (Option Mode × LocalLock) × List Bytes

pub record Locked (fields : List Bytes) (read : LockRead) : Type 0 where
  pub local : IsLocalOwner read.0.1.owner
  pub text : Bytes
  pub file_is : SpellsFile text read.0.1.file
  pub first : read.0.1.offset < 2 ^ 64
  pub len : read.0.1.len < 2 ^ 64
  pub whole : fields ≡ owner_text read.0.1.owner ∷ text ∷ change_text read.0.0 ∷ decimal read.0.1.offset ∷ decimal read.0.1.len ∷ read.1

field_is : (front : List Bytes → List Bytes) (fields rest : List Bytes) (field text : Bytes) → fields ≡ field ∷ rest → field ≡ text → front fields ≡ front (text ∷ rest)
field_is front fields rest field text e is = ap front (e ∙ ap (λ (f : Bytes). f ∷ rest) is)

pub lock_parts : (fields : List Bytes) (read : LockRead) → lock_in fields ≡ Some read → Locked fields read
unfolding lock_in
lock_parts fields read e =
    let a = bind_some (owned_in fields) _ read e in
    let b = bind_some (first_field change_in a.0.1) _ read a.2 in
    let c = bind_some (first_field number_in b.0.1) _ read b.2 in
    let d = bind_some (first_field number_in c.0.1) _ read c.2 in
    let owned = owned_parts fields a.0 a.1 in
    let mode = first_some change_in a.0.1 b.0.0 b.0.1 b.1 in
    let first = first_some number_in b.0.1 c.0.0 c.0.1 c.1 in
    let len = first_some number_in c.0.1 d.0.0 d.0.1 d.1 in
    let first_is = number_parts first.0 c.0.0 first.2 in
    let len_is = number_parts len.0 d.0.0 len.2 in
    let owner : Bytes = owner_text a.0.0.0 in
    let change : Bytes = change_text b.0.0 in
    subst (Locked fields) (same_Some ((b.0.0, record { owner = a.0.0.0; file = a.0.0.1; offset = c.0.0; len = d.0.0 }), d.0.1) read d.2)
    (record {
      local = owned.local;
      text = owned.text;
      file_is = owned.file_is;
      first = first_is.0;
      len = len_is.0;
      whole = owned.whole
          ∙ (field_is (λ fs. owner ∷ owned.text ∷ fs) a.0.1 b.0.1 mode.0 change mode.1 (change_parts mode.0 b.0.0 mode.2)
          ∙ (field_is (λ fs. owner ∷ owned.text ∷ change ∷ fs) b.0.1 c.0.1 first.0 (decimal c.0.0) first.1 first_is.1
          ∙ field_is (λ fs. owner ∷ owned.text ∷ change ∷ decimal c.0.0 ∷ fs) c.0.1 d.0.1 len.0 (decimal d.0.0) len.1 len_is.1));
    })

pub lock_read : (mode : Option Mode) (lock : LocalLock) (text : Bytes) → IsLocalOwner lock.owner → SpellsFile text lock.file → lock.offset < 2 ^ 64 → lock.len < 2 ^ 64
    → lock_in (owner_text lock.owner ∷ text ∷ change_text mode ∷ decimal lock.offset ∷ decimal lock.len ∷ []) ≡ Some ((mode, lock), [])
unfolding lock_in
lock_read mode lock text local spells first len =
    let numbers : List Bytes = decimal lock.offset ∷ decimal lock.len ∷ [] in
    rw (owned_read lock.owner text lock.file (change_text mode ∷ numbers) local spells)
    (rw (first_read change_in (change_text mode) numbers mode (change_read mode))
    (rw (first_read number_in (decimal lock.offset) (decimal lock.len ∷ []) lock.offset (number_read (decimal lock.offset) lock.offset first refl))
    (rw (first_read number_in (decimal lock.len) [] lock.len (number_read (decimal lock.len) lock.len len refl)) refl)))

-- ---- NAME N

abbrev pub QuotaRead : Type 0
QuotaRead = (Bytes × ℕ) × List Bytes

pub record Rationed (fields : List Bytes) (read : QuotaRead) : Type 0 where
  pub text : Bytes
  pub name_is : SpellsHex 480 text read.0.0
  pub most : read.0.1 ≤ 65536
  pub whole : fields ≡ text ∷ decimal read.0.1 ∷ read.1

pub quota_parts : (fields : List Bytes) (read : QuotaRead) → quota_in fields ≡ Some read → Rationed fields read
unfolding quota_in
quota_parts fields read e =
    let a = bind_some (first_field (hex_in 480) fields) _ read e in
    let b = bind_some (first_field runs_in a.0.1) _ read a.2 in
    let first = first_some (hex_in 480) fields a.0.0 a.0.1 a.1 in
    let second = first_some runs_in a.0.1 b.0.0 b.0.1 b.1 in
    let runs = runs_parts second.0 b.0.0 second.2 in
    subst (Rationed fields) (same_Some ((a.0.0, b.0.0), b.0.1) read b.2)
    (record {
      text = first.0;
      name_is = hex_parts 480 first.0 a.0.0 first.2;
      most = runs.0;
      whole = first.1 ∙ field_is (λ fs. first.0 ∷ fs) a.0.1 b.0.1 second.0 (decimal b.0.0) second.1 runs.1;
    })

pub quota_read : (host text : Bytes) (runs : ℕ) → SpellsHex 480 text host → runs ≤ 65536 → quota_in (text ∷ decimal runs ∷ []) ≡ Some ((host, runs), [])
unfolding quota_in
quota_read host text runs spells most =
    rw (first_read (hex_in 480) text (decimal runs ∷ []) host (hex_read 480 text host spells))
    (rw (first_read runs_in (decimal runs) [] runs (runs_read runs most)) refl)
