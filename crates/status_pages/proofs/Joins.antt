-- Texts that are added one behind the other.
use Rattle.std.proofs.Common.{◌≡◌, ℕ, List, [], ◌++◌, append_assoc, append-nil}

pub two_pairs : (o p q a b c d x z : List ℕ) → p ≡ o ++ (a ++ (b ++ [])) → q ≡ p ++ (c ++ (d ++ [])) → a ≡ x → c ≡ z → q ≡ o ++ (x ++ (b ++ (z ++ d)))
two_pairs o p q a b c d x z e f g h = rw (f, e, g, h) (simp (append_assoc, append-nil))

pub three_texts : (o p q r a b c : List ℕ) → p ≡ o ++ (a ++ []) → q ≡ p ++ b → r ≡ q ++ (c ++ []) → r ≡ o ++ (a ++ (b ++ c))
three_texts o p q r a b c e f g = rw (g, f, e) (simp (append_assoc, append-nil))
