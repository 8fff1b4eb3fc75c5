-- What contracts alone see owns nothing, so it may go to another thread.
use denote.RattleType.{RattleType}
use denote.Param.Send.{IsSend}
use Rattle.book.specs.contracts.snapshot.Snapshot.{the_row}

pub send : (A : RattleType) → IsSend (the_row A)
send A = record { owned = λ d vs. ((λ vss. (tt, ((λ uss. (tt, tt)), tt))), tt); leaving = λ k f vs. tt }
