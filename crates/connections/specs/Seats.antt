-- The places of connections: who has which, and what each lends.
use Rattle.std.specs.Prelude.{◌≡◌, ◌≢◌, ℕ, ◌+◌, ◌<◌, ◌≤◌, ◌%◌, ◌==◌, leb, ◌||◌, Bool, true, false, cond, if◌then◌else◌, List, length, count_by, Option, Some, None, position, option_map, slice_get, slice_set}
use Rattle.std.specs.Option.{option_and_then}
use Rattle.std.specs.Net.Addr.{ipv6_segments, ipv6_bits, embedded_segments, MatchIp}
use Rattle.std.specs.declared.net.ip_addr.IpAddr.{IpAddr}
use Rattle.std.specs.declared.net.ipv6_addr.Ipv6Addr.{Ipv6Addr}

-- the 128 bits of an address; an IPv4 address has those of the IPv4-mapped one
abbrev pub AreBitsOf : IpAddr → ℕ → Type 0
AreBitsOf ip bits =
    MatchIp ip
    (λ v4. (mapped : Ipv6Addr) × (ipv6_segments mapped ≡ embedded_segments 0xffff v4) × (bits ≡ ipv6_bits mapped))
    (λ v6. bits ≡ ipv6_bits v6)

-- who has a place: the number of its connection, and the address of its peer
pub record Holder : Type 0 where
  pub number : ℕ
  pub peer : ℕ

-- a place: who has it, if a connection has, and what it lends, if it does
pub record Seat (K : Type 0) : Type 0 where
  pub holder : Option Holder
  pub lent : Option K

-- the least number that a further connection can have, whether none is taken in any more, how many of one peer may be open, if that
-- is limited, and the places
pub record Seats (K : Type 0) : Type 0 where
  pub next : ℕ
  pub is_closed : Bool
  pub most : Option ℕ
  pub places : List (Seat K)

module _ {K : Type 0} where
  -- no connection has it
  abbrev pub is_free : Seat K → Bool
  is_free p = elim p.holder [ None ↦ true | Some _ ↦ false ]

  -- the connection of this number has it
  abbrev pub is_of : ℕ → Seat K → Bool
  is_of n p = elim p.holder [ None ↦ false | Some h ↦ h.number == n ]

  -- a connection from this address has it
  abbrev pub is_from : ℕ → Seat K → Bool
  is_from a p = elim p.holder [ None ↦ false | Some h ↦ h.peer == a ]

  -- the number of the connection that has it
  abbrev pub number_of : Seat K → Option ℕ
  number_of p = option_map (λ h. h.number) p.holder

  -- it lends this from the start, and nobody has it
  abbrev pub lends : K → Seat K
  lends lent = record { holder = None; lent = Some lent }

  -- it lends this, or nothing
  abbrev pub with_lent : Option K → Seat K → Seat K
  with_lent lent p = record p { lent = lent }

  -- this one has it now
  abbrev pub taken_by : Holder → Seat K → Seat K
  taken_by h p = record p { holder = Some h }

  -- the connection of this number has it no more; another one keeps it
  abbrev pub left_by : ℕ → Seat K → Seat K
  left_by n p = if is_of n p then record p { holder = None } else p

  -- the places, of which the one of this index, if there is one, is changed
  abbrev pub with_place : (Seat K → Seat K) → ℕ → List (Seat K) → List (Seat K)
  with_place f i places = elim (slice_get places i) [ None ↦ places | Some p ↦ slice_set places i (f p) ]

  -- what the place of this index lends
  abbrev pub lent_at : ℕ → List (Seat K) → Option K
  lent_at i places = option_and_then (λ p. p.lent) (slice_get places i)

  -- whose the place of this index is
  abbrev pub number_at : ℕ → List (Seat K) → Option ℕ
  number_at i places = option_and_then number_of (slice_get places i)

  -- who has the place of this index
  abbrev pub holder_at : ℕ → List (Seat K) → Option Holder
  holder_at i places = option_and_then (λ p. p.holder) (slice_get places i)

  -- how many connections from this address are open
  abbrev pub count_from : ℕ → List (Seat K) → ℕ
  count_from a places = count_by (is_from a) places

  -- as many are open from this address as may be
  abbrev pub is_full_for : ℕ → Seats K → Bool
  is_full_for a s = elim s.most [ None ↦ false | Some most ↦ leb most (count_from a s.places) ]

  -- the index of the place of a connection of this number: the rest of dividing it by how many places there are
  abbrev pub place_of : ℕ → Seats K → ℕ
  place_of n s = n % length s.places

  -- a connection of this number has its place
  abbrev pub HasPlace : ℕ → Seats K → Type 0
  HasPlace n s = number_at (place_of n s) s.places ≡ Some n

  -- one place is changed, and nothing else
  abbrev pub with_one : (Seat K → Seat K) → ℕ → Seats K → Seats K
  with_one f i s = record s { places = with_place f i s.places }

  -- none is taken in any more
  abbrev pub closed : Seats K → Seats K
  closed s = record s { is_closed = true }

  -- one more connection is taken in from this address at the place of this index: its number, and the places then
  abbrev pub admitted_at : ℕ → Seats K → ℕ → ℕ × Seats K
  admitted_at a s i =
      let h : Holder = record { number = s.next + i; peer = a } in
      (h.number, record s { next = s.next + length s.places; places = with_place (taken_by h) i s.places })

  -- one more is taken in from this address at the first place that is free: not where none is free, nor where none is taken in any
  -- more, nor where as many are open from the address as may be
  abbrev pub admitted : ℕ → Seats K → Option (ℕ × Seats K)
  admitted a s = if s.is_closed || is_full_for a s then None else option_map (admitted_at a s) (position is_free s.places)

  -- each connection is at the place of its number, and a further one has a number that none of them has
  pub record IsSeated (next : ℕ) (places : List (Seat K)) : Type 0 where
    pub whole : next % length places ≡ 0
    pub seated : (i n : ℕ) → number_at i places ≡ Some n → (n % length places ≡ i) × (n < next)

  -- no address has more connections than may be open from one
  pub record IsShared (limit : Option ℕ) (places : List (Seat K)) : Type 0 where
    pub shared : (most : ℕ) → limit ≡ Some most → (a : ℕ) → count_from a places ≤ most

-- a connection keeps its place when another one comes
abbrev pub IsKeptAtCome : Type 0 → Type 0
IsKeptAtCome K = (n m a : ℕ) (s t : Seats K) → HasPlace n s → admitted a s ≡ Some (m, t) → HasPlace n t

-- a connection keeps its place when another one leaves
abbrev pub IsKeptAtLeave : Type 0 → Type 0
IsKeptAtLeave K = (n m : ℕ) (s : Seats K) → HasPlace n s → n ≢ m → HasPlace n (with_one (left_by m) (place_of m s) s)

-- a connection keeps its place whatever its own or another one lends
abbrev pub IsKeptAtLend : Type 0 → Type 0
IsKeptAtLend K = (n i : ℕ) (lent : Option K) (s : Seats K) → HasPlace n s → HasPlace n (with_one (with_lent lent) i s)

-- a connection keeps its place when none is taken in any more
abbrev pub IsKeptAtClose : Type 0 → Type 0
IsKeptAtClose K = (n : ℕ) (s : Seats K) → HasPlace n s → HasPlace n (closed s)

-- the place that a connection leaves is free
abbrev pub IsFreeOnceLeft : Type 0 → Type 0
IsFreeOnceLeft K = (n : ℕ) (s : Seats K) → HasPlace n s → number_at (place_of n s) (with_one (left_by n) (place_of n s) s).places ≡ None

-- one more from an address counts for that address, and for no other
abbrev pub IsCountedAtCome : Type 0 → Type 0
IsCountedAtCome K = (m a b : ℕ) (s t : Seats K) → admitted a s ≡ Some (m, t) → count_from b t.places ≡ count_from b s.places + cond (a == b) 1 0

-- one that leaves counts for its address no more; for another it never did
abbrev pub IsCountedAtLeave : Type 0 → Type 0
IsCountedAtLeave K =
    (b : ℕ) (s : Seats K) (h : Holder) → holder_at (place_of h.number s) s.places ≡ Some h
    → count_from b (with_one (left_by h.number) (place_of h.number s) s).places + cond (h.peer == b) 1 0 ≡ count_from b s.places
