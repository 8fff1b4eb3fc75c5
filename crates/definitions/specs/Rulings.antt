-- What a call comes to: at most one question to the store, and what follows where it is answered yes and where it is refused.
use Rattle.std.specs.Prelude.{Option, None}
use Rattle.definitions.specs.Hosts.{StoreCall, StoreAnswer, NotAsked, Yes, Refused}
use Rattle.definitions.specs.World.{World}

pub record Response (A : Type 0) : Type 0 where
  pub says : A
  pub world : World

pub record Ruling (A : Type 0) : Type 0 where
  pub asks : Option StoreCall
  pub agreed : A
  pub refused : A

-- an answer that leaves the world as it is, or makes another of it; the store isn't asked
abbrev pub decided_ruling : {A : Type 0} → A → Ruling A
decided_ruling x = record { asks = None; agreed = x; refused = x }

abbrev pub stays : {A : Type 0} → World → A → Ruling (Response A)
stays w x = decided_ruling (record { says = x; world = w })

-- nothing that needs the store's yes comes without it; where it isn't asked, both are one
abbrev pub ruled_answer : {A : Type 0} → StoreAnswer → Ruling A → A
ruled_answer NotAsked r = r.refused
ruled_answer Yes r = r.agreed
ruled_answer Refused r = r.refused

abbrev pub each : {A B : Type 0} → (A → B) → Ruling A → Ruling B
each f r = record { asks = r.asks; agreed = f r.agreed; refused = f r.refused }
