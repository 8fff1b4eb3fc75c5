-- What is sent fits behind a header of 64 bytes.
use Rattle.std.proofs.Common.{◌≡◌, ℕ, ◌≤◌, List, length, replicate, arith}
use Rattle.std.proofs.lemmas.List.{length-append, length-replicate}
use Rattle.xdr_core.specs.Formats.{◌&◌, signed, padded_codec}
use Rattle.xdr_core.specs.Spelling.{residue}
use Rattle.xdr_core.proofs.Lengths.{both-length, opaque-length, below-length, signed-length}
use Rattle.nsm_types.specs.Arguments.{StatChgeArgs, StatusArgs, name, stat_chge, status}
use Rattle.nsm_types.specs.Results.{StatRes, OwnState, monitor_res, number_of_monitor_res, sm_stat_res, sm_stat}

private_bytes_length : (v : List ℕ) → length v ≡ 16 → length ((padded_codec 16).written v) ≡ 16
private_bytes_length v is = omega (arith, length-append v (replicate (residue 16) 0), length-replicate {A = ℕ} (residue 16) 0)

pub stat_chge_fits : (v : StatChgeArgs) → length v.mon_name ≤ 1024 → length (stat_chge.written v) ≤ 4032
unfolding stat_chge
stat_chge_fits v le = omega (arith, both-length name signed (v.mon_name, v.state), opaque-length 1024 v.mon_name, signed-length v.state)

pub status_fits : (v : StatusArgs) → length v.mon_name ≤ 1024 → length v.private_bytes ≡ 16 → length (status.written v) ≤ 4032
unfolding status
status_fits v le is =
    omega (
      arith,
      both-length name (signed & padded_codec 16) (v.mon_name, (v.state, v.private_bytes)),
      both-length signed (padded_codec 16) (v.state, v.private_bytes),
      opaque-length 1024 v.mon_name,
      signed-length v.state,
      private_bytes_length v.private_bytes is,
    )

pub sm_stat_res_fits : (v : StatRes) → length (sm_stat_res.written v) ≤ 4032
unfolding sm_stat_res monitor_res
sm_stat_res_fits v = omega (arith, both-length monitor_res signed (v.res, v.state), below-length 2 (number_of_monitor_res v.res), signed-length v.state)

pub sm_stat_fits : (v : OwnState) → length (sm_stat.written v) ≤ 4032
unfolding sm_stat
sm_stat_fits v = omega (arith, signed-length v.state)
