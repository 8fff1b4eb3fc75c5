-- The file of peers, as bytes: a line for each, which is a name, a space and an IP address.
use Rattle.std.specs.Prelude.{◌≡◌, ◌≤◌, ◌+◌, ℕ, Bool, true, not, ◌&&◌, eqb, leb, List, [], ◌∷◌, ◌++◌, length, Option, None, bytes_eq}
use Rattle.std.specs.List.{find, list_any}
use Rattle.std.specs.Option.{option_map}
use Rattle.std.specs.Net.Grammar.{IsIpText}
use Rattle.std.specs.declared.net.ip_addr.IpAddr.{IpAddr}
use Rattle.byte_io.specs.Parts.{parts_at}

pub record Peer : Type 0 where
  pub name : List ℕ
  pub address : IpAddr

-- ---- lines

-- the last part is a line, too, where it isn't empty
abbrev pub whole_lines : List (List ℕ) → List (List ℕ)
whole_lines [] = []
whole_lines ([] ∷ []) = []
whole_lines (line ∷ lines) = line ∷ whole_lines lines

-- the lines of a file, without their line feeds; the last one's may be missing
abbrev pub lines_of : List ℕ → List (List ℕ)
lines_of bytes = whole_lines (parts_at 10 bytes)

-- ---- one line

-- 1 to 1,024 bytes without carriage return
abbrev pub is_name : List ℕ → Bool
is_name name = leb 1 (length name) && (leb (length name) 1024 && not (list_any (λ b. eqb b 13) name))

-- a name, a space and an IP address of either version. Neither has a space
pub record Spells (line : List ℕ) (peer : Peer) : Type 0 where
  pub text : List ℕ
  pub fields : parts_at 32 line ≡ peer.name ∷ text ∷ []
  pub name : is_name peer.name ≡ true
  pub address : IsIpText text peer.address

-- ---- the file

abbrev pub AreSpelled : List (List ℕ) → List Peer → Type 0
AreSpelled [] [] = Unit {0}
AreSpelled (line ∷ lines) (peer ∷ peers) = Spells line peer × AreSpelled lines peers
AreSpelled [] (peer ∷ peers) = ⊥
AreSpelled (line ∷ lines) [] = ⊥

-- the address that a name's line gives
abbrev pub address_of : List ℕ → List Peer → Option IpAddr
address_of name peers = option_map (λ (p : Peer). p.address) (find (λ (p : Peer). bytes_eq p.name name) peers)

-- no name has two lines
abbrev pub IsOnce : List Peer → Type 0
IsOnce [] = Unit {0}
IsOnce (peer ∷ peers) = (address_of peer.name peers ≡ None) × IsOnce peers

-- at most 4,096 lines, each of them a peer's, and no name twice
pub record ArePeers (lines : List (List ℕ)) (peers : List Peer) : Type 0 where
  pub spelled : AreSpelled lines peers
  pub once : IsOnce peers
  pub few : length lines ≤ 4096

-- the lines before this one are peers, and with it they are none
pub record IsBadLine (lines : List (List ℕ)) (number : ℕ) : Type 0 where
  pub before : List (List ℕ)
  pub line : List ℕ
  pub after : List (List ℕ)
  pub all : lines ≡ before ++ line ∷ after
  pub counted : number ≡ length before + 1
  pub peers : List Peer
  pub fine : ArePeers before peers
  pub bad : (others : List Peer) → ArePeers (before ++ line ∷ []) others → ⊥
