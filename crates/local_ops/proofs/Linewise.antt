-- A line is read as what it spells, and as nothing else.
use Rattle.std.proofs.Common.{◌≡◌, ℕ, ◌<◌, ◌^◌, arith, List, [], ◌∷◌, true, Option, Some, None, length, refl, sym, ap, subst, ◌∙◌}
use Rattle.std.specs.Prelude.{leb, codes, Result, Ok, Err}
use Rattle.std.specs.Fmt.{decimal}
use Rattle.std.proofs.lemmas.Bool.{and_from, leb-true, le-leb, cond-true}
use Rattle.std.proofs.lemmas.List.Splits.{join_with_byte-slice_split}
use Rattle.std.proofs.lemmas.Option.{same_Some}
use Rattle.definitions.specs.Bytes.{Bytes}
use Rattle.definitions.specs.Owners.{Owner, Remote, Process, Description}
use Rattle.definitions.specs.Settings.{Mode, Shared, Exclusive}
use Rattle.definitions.specs.Outgoing.{LocalLock}
use Rattle.definitions.specs.Replies as def
use Rattle.local_ops.specs.Texts.{spaced_fields, owner_text, mode_text}
use Rattle.local_ops.specs.Grammar.{IsLocalOwner, SpellsLock, SpellsClose, SpellsQuota, Spells, IsLine, Reads, change_text}
use Rattle.local_ops.specs.Reading.{Gives, first_field, owned_in, quota_in, lock_in, fields_of, ◌>>=◌}
use Rattle.local_ops.specs.Words.{word_in, asked_line, get_lock_of, line_by, whole_line, line_in, read_line}
use Rattle.local_ops.specs.Calls.{view_of_local_call, view_of_line_read}
use Rattle.local_ops.specs.declared.call.LocalCall.{LocalCall}
use Rattle.local_ops.specs.declared.fields.BadLine.{BadLine}
use Rattle.local_ops.specs.declared.fields.Word.{Word}
use Rattle.local_ops.specs.declared.fields.Word.TheVariants.{GetLock, SetLock, SetLockWait, Close, Table, Hosts, Quota, Stop}
use Rattle.local_ops.proofs.Fieldwise.{bind_some, map_some, when_true, first_some, first_read, word_parts, word_read, word_text}
use Rattle.local_ops.proofs.Spaces.{spaceless, fields_of-spaced, spaceless-decimal, spaceless-hex}
use Rattle.local_ops.proofs.Wholes.{LockRead, OwnedRead, QuotaRead, Locked, Owned, Rationed, lock_parts, lock_read, owned_parts, owned_read, quota_parts, quota_read}

-- ---- what is read is spelled

asked_parts : (mode : Option Mode) (lock : LocalLock) (line : def.Line) → asked_line (mode, lock) ≡ Some line → (m : Mode) × (mode ≡ Some m) × (def.GetLock m lock ≡ line)
asked_parts None lock line e = absurd cc
asked_parts (Some m) lock line e = (m, refl, same_Some _ _ e)

spells_lock : (word bytes : Bytes) (fields : List Bytes) (read : LockRead) → Locked fields read → read.1 ≡ [] → bytes ≡ spaced_fields (word ∷ fields)
    → SpellsLock word (change_text read.0.0) read.0.1 bytes
spells_lock word bytes fields read h ends whole = record {
  owner = h.local;
  file = h.text;
  file_is = h.file_is;
  first = h.first;
  len = h.len;
  whole =
      whole ∙ ap (λ (fs : List Bytes). spaced_fields (word ∷ fs)) (h.whole
      ∙ ap (λ (fs : List Bytes). owner_text read.0.1.owner ∷ h.text ∷ change_text read.0.0 ∷ decimal read.0.1.offset ∷ decimal read.0.1.len ∷ fs) ends);
}

spells_close : (bytes : Bytes) (fields : List Bytes) (read : OwnedRead) → Owned fields read → read.1 ≡ [] → bytes ≡ spaced_fields (codes "close" ∷ fields)
    → SpellsClose read.0.0 read.0.1 bytes
spells_close bytes fields read h ends whole = record {
  owner = h.local;
  file = h.text;
  file_is = h.file_is;
  whole =
      whole ∙ ap (λ (fs : List Bytes). spaced_fields (codes "close" ∷ fs)) (h.whole
      ∙ ap (λ (fs : List Bytes). owner_text read.0.0 ∷ h.text ∷ fs) ends);
}

spells_quota : (bytes : Bytes) (fields : List Bytes) (read : QuotaRead) → Rationed fields read → read.1 ≡ [] → bytes ≡ spaced_fields (codes "quota" ∷ fields)
    → SpellsQuota read.0.0 read.0.1 bytes
spells_quota bytes fields read h ends whole = record {
  name = h.text;
  name_is = h.name_is;
  most = h.most;
  whole =
      whole ∙ ap (λ (fs : List Bytes). spaced_fields (codes "quota" ∷ fs)) (h.whole
      ∙ ap (λ (fs : List Bytes). h.text ∷ decimal read.0.1 ∷ fs) ends);
}

get_spelled : (bytes : Bytes) (fields : List Bytes) (line : def.Line) → (lock_in fields >>= get_lock_of) ≡ Some (line, []) → bytes ≡ spaced_fields (codes "getlk" ∷ fields) → Spells bytes line
get_spelled bytes fields line e whole =
    let a = bind_some (lock_in fields) get_lock_of (line, []) e in
    let b = map_some (λ l. (l, a.0.1)) (asked_line a.0.0) (line, []) a.2 in
    let c = asked_parts a.0.0.0 a.0.0.1 b.0 b.1 in
    let ends : a.0.1 ≡ [] = ap (λ p. p.1) b.2 in
    let is : def.GetLock c.0 a.0.0.1 ≡ line = c.2 ∙ ap (λ p. p.0) b.2 in
    let spelled = spells_lock (codes "getlk") bytes fields a.0 (lock_parts fields a.0 a.1) ends whole in
    let P : Option Mode → Type 0 = λ m. SpellsLock (codes "getlk") (change_text m) a.0.0.1 bytes in
    subst (Spells bytes) is (subst P c.1 spelled)

ends_so : {X : Type 0} (f : X → def.Line) (x : X) (rest : List Bytes) (line : def.Line) → ◌≡◌ {A = Option (def.Line × List Bytes)} (Some (f x, rest)) (Some (line, [])) → (f x ≡ line) × (rest ≡ [])
ends_so f x rest line e = let p = same_Some (f x, rest) (line, []) e in (ap (λ q. q.0) p, ap (λ q. q.1) p)

by_word : (word : Word) (bytes : Bytes) (fields : List Bytes) (line : def.Line) → line_by word fields ≡ Some (line, []) → bytes ≡ spaced_fields (word_text word ∷ fields) → Spells bytes line
by_word GetLock bytes fields line e whole = get_spelled bytes fields line e whole
by_word SetLock bytes fields line e whole =
    let a = bind_some (lock_in fields) _ (line, []) e in
    let b = ends_so (λ (read : Option Mode × LocalLock). def.SetLock read.0 read.1) a.0.0 a.0.1 line a.2 in
    subst (Spells bytes) b.0 (spells_lock (codes "setlk") bytes fields a.0 (lock_parts fields a.0 a.1) b.1 whole)
by_word SetLockWait bytes fields line e whole =
    let a = bind_some (lock_in fields) _ (line, []) e in
    let b = ends_so (λ (read : Option Mode × LocalLock). def.SetLockWait read.0 read.1) a.0.0 a.0.1 line a.2 in
    subst (Spells bytes) b.0 (spells_lock (codes "setlkw") bytes fields a.0 (lock_parts fields a.0 a.1) b.1 whole)
by_word Close bytes fields line e whole =
    let a = bind_some (owned_in fields) _ (line, []) e in
    let b = ends_so (λ (read : Owner × Bytes). def.Close read.0 read.1) a.0.0 a.0.1 line a.2 in
    subst (Spells bytes) b.0 (spells_close bytes fields a.0 (owned_parts fields a.0 a.1) b.1 whole)
by_word Table bytes fields line e whole =
    let b = ends_so (λ (l : def.Line). l) def.Table fields line e in
    subst (Spells bytes) b.0 (whole ∙ ap (λ (fs : List Bytes). spaced_fields (codes "table" ∷ fs)) b.1)
by_word Hosts bytes fields line e whole =
    let b = ends_so (λ (l : def.Line). l) def.HostList fields line e in
    subst (Spells bytes) b.0 (whole ∙ ap (λ (fs : List Bytes). spaced_fields (codes "hosts" ∷ fs)) b.1)
by_word Quota bytes fields line e whole =
    let a = bind_some (quota_in fields) _ (line, []) e in
    let b = ends_so (λ (read : Bytes × ℕ). def.SetQuota read.0 read.1) a.0.0 a.0.1 line a.2 in
    subst (Spells bytes) b.0 (spells_quota bytes fields a.0 (quota_parts fields a.0 a.1) b.1 whole)
by_word Stop bytes fields line e whole =
    let b = ends_so (λ (l : def.Line). l) def.Stop fields line e in
    subst (Spells bytes) b.0 (whole ∙ ap (λ (fs : List Bytes). spaced_fields (codes "stop" ∷ fs)) b.1)

whole_parts : (read : def.Line × List Bytes) (line : def.Line) → whole_line read ≡ Some line → read ≡ (line, [])
whole_parts (l, []) line e = ap (λ (x : def.Line). (x, [])) (same_Some l line e)
whole_parts (l, field ∷ fields) line e = absurd cc

line_spelled : (bytes : Bytes) (fields : List Bytes) (line : def.Line) → line_in fields ≡ Some line → bytes ≡ spaced_fields fields → Spells bytes line
unfolding line_in
line_spelled bytes fields line e whole =
    let a = bind_some (first_field word_in fields) _ line e in
    let b = bind_some (line_by a.0.0 a.0.1) whole_line line a.2 in
    let word = first_some word_in fields a.0.0 a.0.1 a.1 in
    by_word a.0.0 bytes a.0.1 line (b.1 ∙ ap Some (whole_parts b.0 line b.2))
    (whole ∙ ap spaced_fields (word.1 ∙ ap (λ (f : Bytes). f ∷ a.0.1) (word_parts word.0 a.0.0 word.2)))

pub read_is_spelled : (bytes : Bytes) (line : def.Line) → read_line bytes ≡ Some line → IsLine bytes line
unfolding read_line
read_is_spelled bytes line e =
    let p = when_true (leb (length bytes) 512) (line_in (fields_of bytes)) line e in
    (leb-true (length bytes) 512 p.0, line_spelled bytes (fields_of bytes) line p.1 (sym (join_with_byte-slice_split 32 bytes)))

-- ---- what is spelled is read

spaceless-owner : (owner : Owner) → IsLocalOwner owner → spaceless (owner_text owner) ≡ true
spaceless-owner (Remote caller) h = absurd h
spaceless-owner (Process pid) h = spaceless-decimal pid (omega arith)
spaceless-owner (Description number) h = spaceless-decimal number h

spaceless-change : (mode : Option Mode) → spaceless (change_text mode) ≡ true
spaceless-change None = refl
spaceless-change (Some Shared) = refl
spaceless-change (Some Exclusive) = refl

lock_fields : (word mode bytes : Bytes) (lock : LocalLock) (s : SpellsLock word mode lock bytes) → spaceless word ≡ true → spaceless mode ≡ true
    → fields_of bytes ≡ word ∷ owner_text lock.owner ∷ s.file ∷ mode ∷ decimal lock.offset ∷ decimal lock.len ∷ []
lock_fields word mode bytes lock s w m =
    ap fields_of s.whole
    ∙ fields_of-spaced word (owner_text lock.owner ∷ s.file ∷ mode ∷ decimal lock.offset ∷ decimal lock.len ∷ []) w
    (and_from _ _ (spaceless-owner lock.owner s.owner)
    (and_from _ _ (spaceless-hex s.file lock.file s.file_is.digits)
    (and_from _ _ m (and_from _ _ (spaceless-decimal lock.offset s.first) (and_from _ _ (spaceless-decimal lock.len s.len) refl)))))

close_fields : (bytes : Bytes) (owner : Owner) (file : Bytes) (s : SpellsClose owner file bytes) → fields_of bytes ≡ codes "close" ∷ owner_text owner ∷ s.file ∷ []
close_fields bytes owner file s =
    ap fields_of s.whole
    ∙ fields_of-spaced (codes "close") (owner_text owner ∷ s.file ∷ []) refl
    (and_from _ _ (spaceless-owner owner s.owner) (and_from _ _ (spaceless-hex s.file file s.file_is.digits) refl))

quota_fields : (bytes host : Bytes) (runs : ℕ) (s : SpellsQuota host runs bytes) → fields_of bytes ≡ codes "quota" ∷ s.name ∷ decimal runs ∷ []
quota_fields bytes host runs s =
    let fits : runs < 2 ^ 64 = (let most = s.most in omega arith) in
    ap fields_of s.whole
    ∙ fields_of-spaced (codes "quota") (s.name ∷ decimal runs ∷ []) refl
    (and_from _ _ (spaceless-hex s.name host s.name_is.digits) (and_from _ _ (spaceless-decimal runs fits) refl))

word_first : (word : Word) (fields : List Bytes) (read : def.Line × List Bytes) (line : def.Line) → line_by word fields ≡ Some read → whole_line read ≡ Some line
    → line_in (word_text word ∷ fields) ≡ Some line
unfolding line_in
word_first word fields read line e whole =
    rw (first_read word_in (word_text word) fields word (word_read word)) (rw e whole)

spelled_line : (bytes : Bytes) (line : def.Line) → Spells bytes line → line_in (fields_of bytes) ≡ Some line
spelled_line bytes (def.GetLock mode lock) s =
    ap line_in (lock_fields (codes "getlk") (mode_text mode) bytes lock s refl (spaceless-change (Some mode)))
    ∙ word_first GetLock _ (def.GetLock mode lock, []) (def.GetLock mode lock) (rw (lock_read (Some mode) lock s.file s.owner s.file_is s.first s.len) refl) refl
spelled_line bytes (def.SetLock mode lock) s =
    ap line_in (lock_fields (codes "setlk") (change_text mode) bytes lock s refl (spaceless-change mode))
    ∙ word_first SetLock _ (def.SetLock mode lock, []) (def.SetLock mode lock) (rw (lock_read mode lock s.file s.owner s.file_is s.first s.len) refl) refl
spelled_line bytes (def.SetLockWait mode lock) s =
    ap line_in (lock_fields (codes "setlkw") (change_text mode) bytes lock s refl (spaceless-change mode))
    ∙ word_first SetLockWait _ (def.SetLockWait mode lock, []) (def.SetLockWait mode lock) (rw (lock_read mode lock s.file s.owner s.file_is s.first s.len) refl) refl
spelled_line bytes (def.Close owner file) s =
    ap line_in (close_fields bytes owner file s)
    ∙ word_first Close _ (def.Close owner file, []) (def.Close owner file) (rw (owned_read owner s.file file [] s.owner s.file_is) refl) refl
spelled_line bytes def.Table s = ap (λ (b : Bytes). line_in (fields_of b)) s ∙ word_first Table [] (def.Table, []) def.Table refl refl
spelled_line bytes def.HostList s = ap (λ (b : Bytes). line_in (fields_of b)) s ∙ word_first Hosts [] (def.HostList, []) def.HostList refl refl
spelled_line bytes (def.SetQuota host runs) s =
    ap line_in (quota_fields bytes host runs s)
    ∙ word_first Quota _ (def.SetQuota host runs, []) (def.SetQuota host runs) (rw (quota_read host s.name runs s.name_is s.most) refl) refl
spelled_line bytes def.Stop s = ap (λ (b : Bytes). line_in (fields_of b)) s ∙ word_first Stop [] (def.Stop, []) def.Stop refl refl
spelled_line bytes def.BadLine s = absurd s

pub spelled_is_read : (bytes : Bytes) (line : def.Line) → IsLine bytes line → read_line bytes ≡ Some line
unfolding read_line
spelled_is_read bytes line h =
    cond-true (leb (length bytes) 512) (line_in (fields_of bytes)) None (le-leb (length bytes) 512 h.0) ∙ spelled_line bytes line h.1

-- ---- one reading

reads_line : (bytes : Bytes) (line : def.Line) → IsLine bytes line → Reads bytes line
reads_line bytes (def.GetLock mode lock) h = h
reads_line bytes (def.SetLock mode lock) h = h
reads_line bytes (def.SetLockWait mode lock) h = h
reads_line bytes (def.Close owner file) h = h
reads_line bytes def.Table h = h
reads_line bytes def.HostList h = h
reads_line bytes (def.SetQuota host runs) h = h
reads_line bytes def.Stop h = h
reads_line bytes def.BadLine h = absurd h.1

pub reads_is : (bytes : Bytes) (read : Result LocalCall BadLine) → Gives view_of_local_call read (read_line bytes) → Reads bytes (view_of_line_read read)
reads_is bytes (Ok call) e = reads_line bytes (view_of_local_call call) (read_is_spelled bytes (view_of_local_call call) e)
reads_is bytes (Err bad) e = λ line h. let some = spelled_is_read bytes line h in absurd cc

abbrev read_as : Bytes → Option def.Line → def.Line
read_as bytes None = def.BadLine
read_as bytes (Some line) = line

not_line : (bytes : Bytes) (o : Option def.Line) → ((line : def.Line) → o ≡ Some line → ⊥) → read_as bytes o ≡ def.BadLine
not_line bytes None h = refl
not_line bytes (Some line) h = absurd (h line refl)

-- a reading is what is read
reading_is : (bytes : Bytes) (line : def.Line) → Reads bytes line → read_as bytes (read_line bytes) ≡ line
reading_is bytes def.BadLine h = not_line bytes (read_line bytes) (λ line e. h line (read_is_spelled bytes line e))
reading_is bytes (def.GetLock mode lock) h = ap (read_as bytes) (spelled_is_read bytes (def.GetLock mode lock) h)
reading_is bytes (def.SetLock mode lock) h = ap (read_as bytes) (spelled_is_read bytes (def.SetLock mode lock) h)
reading_is bytes (def.SetLockWait mode lock) h = ap (read_as bytes) (spelled_is_read bytes (def.SetLockWait mode lock) h)
reading_is bytes (def.Close owner file) h = ap (read_as bytes) (spelled_is_read bytes (def.Close owner file) h)
reading_is bytes def.Table h = ap (read_as bytes) (spelled_is_read bytes def.Table h)
reading_is bytes def.HostList h = ap (read_as bytes) (spelled_is_read bytes def.HostList h)
reading_is bytes (def.SetQuota host runs) h = ap (read_as bytes) (spelled_is_read bytes (def.SetQuota host runs) h)
reading_is bytes def.Stop h = ap (read_as bytes) (spelled_is_read bytes def.Stop h)

pub one_line : (bytes : Bytes) (a b : def.Line) → Reads bytes a → Reads bytes b → a ≡ b
one_line bytes a b p q = sym (reading_is bytes a p) ∙ reading_is bytes b q
