-- A record has one verdict, and bytes are one answer.
use Rattle.std.specs.Prelude.{◌≡◌, ℕ, List}
use Rattle.rpc_msg.specs.declared.header.Header.{Header}
use Rattle.rpc_msg.specs.declared.header.HeaderError.{HeaderError}
use Rattle.rpc_msg.specs.declared.answer.Answer.{Answer}
use Rattle.rpc_msg.specs.Verdict.{Asks, IsRefusal}
use Rattle.rpc_msg.specs.Answered.{IsAnswer, IsNoAnswer}

pub record HasOneVerdict : Type 0 where
  pub call : (bytes : List ℕ) (h k : Header) (x y : List ℕ) → Asks bytes h x → Asks bytes k y → (h ≡ k) × (x ≡ y)
  pub either : (bytes : List ℕ) (h : Header) (x : List ℕ) (e : HeaderError) → Asks bytes h x → IsRefusal bytes e → ⊥
  pub refusal : (bytes : List ℕ) (d e : HeaderError) → IsRefusal bytes d → IsRefusal bytes e → d ≡ e

pub record HasOneAnswer : Type 0 where
  pub answer : (bytes : List ℕ) (a b : Answer) → IsAnswer bytes a → IsAnswer bytes b → a ≡ b
  pub either : (bytes : List ℕ) (a : Answer) → IsAnswer bytes a → IsNoAnswer bytes → ⊥
