-- What is sent fits behind a header of 64 bytes.
use Rattle.std.proofs.Common.{◌≡◌, ℕ, ◌≤◌, Bool, true, false, List, length, Option, Some, None, arith}
use Rattle.std.specs.Option.{option_map}
use Rattle.std.proofs.lemmas.List.{length-append}
use Rattle.xdr_core.specs.Formats.{◌&◌, tagged, optional, signed, flag}
use Rattle.xdr_core.proofs.Lengths.{both-length, opaque-length, below-length, signed-length, flag-length, word-length, hyper-length}
use Rattle.definitions.specs.Nlm.{Lock, TestArgs, Res, Holder, ShareRes, Stat}
use Rattle.nlm4_types.specs.Offset.{offset}
use Rattle.nlm4_types.specs.Stat.{view_of_stat, stat, number_of_stat}
use Rattle.nlm4_types.specs.Lock.{netobj, name, lock}
use Rattle.nlm4_types.specs.Arguments.{testargs}
use Rattle.nlm4_types.specs.Share.{shareres}
use Rattle.nlm4_types.specs.declared.results.Holder as holder_declared
use Rattle.nlm4_types.specs.declared.results.TestRes as testres_declared
use Rattle.nlm4_types.specs.Results.{view_of_holder, view_of_testres, res, holder, testres, has_holder}

pub offset-length : (wide : Bool) (n : ℕ) → length ((offset wide).written n) ≤ 8
unfolding offset
offset-length true n = omega (arith, hyper-length n)
offset-length false n = omega (arith, word-length n)

pub stat-length : (s : Stat) → length (stat.written s) ≡ 4
unfolding stat
stat-length s = below-length 10 (number_of_stat s)

pub res_fits : (v : Res) → length v.cookie ≤ 1024 → length (res.written v) ≤ 4032
unfolding res
res_fits v le = omega (arith, both-length netobj stat (v.cookie, v.stat), opaque-length 1024 v.cookie, stat-length v.stat)

pub shareres_fits : (v : ShareRes) → length v.cookie ≤ 1024 → length (shareres.written v) ≤ 4032
unfolding shareres
shareres_fits v le = omega (arith, both-length netobj (stat & signed) (v.cookie, (v.stat, v.sequence)), both-length stat signed (v.stat, v.sequence), opaque-length 1024 v.cookie, stat-length v.stat, signed-length v.sequence)

pub holder_length : (wide : Bool) (v : Holder) → length v.oh ≤ 1024 → length ((holder wide).written v) ≤ 1100
unfolding holder
holder_length wide v le =
    omega (
      arith,
      both-length flag (signed & netobj & offset wide & offset wide) (v.exclusive, (v.svid, (v.oh, (v.l_offset, v.l_len)))),
      both-length signed (netobj & offset wide & offset wide) (v.svid, (v.oh, (v.l_offset, v.l_len))),
      both-length netobj (offset wide & offset wide) (v.oh, (v.l_offset, v.l_len)),
      both-length (offset wide) (offset wide) (v.l_offset, v.l_len),
      flag-length v.exclusive,
      signed-length v.svid,
      opaque-length 1024 v.oh,
      offset-length wide v.l_offset,
      offset-length wide v.l_len,
    )

pub lock_length : (wide : Bool) (v : Lock) → length v.caller_name ≤ 1024 → length v.fh ≤ 1024 → length v.oh ≤ 1024 → length ((lock wide).written v) ≤ 3200
unfolding lock
lock_length wide v n h o =
    omega (
      arith,
      both-length name (netobj & netobj & signed & offset wide & offset wide) (v.caller_name, (v.fh, (v.oh, (v.svid, (v.l_offset, v.l_len))))),
      both-length netobj (netobj & signed & offset wide & offset wide) (v.fh, (v.oh, (v.svid, (v.l_offset, v.l_len)))),
      both-length netobj (signed & offset wide & offset wide) (v.oh, (v.svid, (v.l_offset, v.l_len))),
      both-length signed (offset wide & offset wide) (v.svid, (v.l_offset, v.l_len)),
      both-length (offset wide) (offset wide) (v.l_offset, v.l_len),
      opaque-length 1024 v.caller_name,
      opaque-length 1024 v.fh,
      opaque-length 1024 v.oh,
      signed-length v.svid,
      offset-length wide v.l_offset,
      offset-length wide v.l_len,
    )

-- the cookie is a number's 8 bytes
pub grant_fits : (wide : Bool) (v : TestArgs) → length v.cookie ≡ 8 → length v.alock.caller_name ≤ 1024 → length v.alock.fh ≤ 1024 → length v.alock.oh ≤ 1024 → length ((testargs wide).written v) ≤ 4032
unfolding testargs
grant_fits wide v c n h o =
    omega (
      arith,
      both-length netobj (flag & lock wide) (v.cookie, (v.exclusive, v.alock)),
      both-length flag (lock wide) (v.exclusive, v.alock),
      opaque-length 1024 v.cookie,
      flag-length v.exclusive,
      lock_length wide v.alock n h o,
    )

optional_holder_length : {n : ℕ} (wide wanted : Bool) (held : Option (holder_declared.Holder n)) → length ((optional wanted (holder wide)).written (option_map view_of_holder held)) ≤ 1100
optional_holder_length wide wanted None = omega arith
optional_holder_length wide wanted (Some h) = holder_length wide (view_of_holder h) h.oh.bounded

pub testres_fits : {n : ℕ} (wide : Bool) (r : testres_declared.TestRes n) → length ((testres wide).written (view_of_testres r)) ≤ 4032
unfolding testres tagged
testres_fits wide r =
    let p : List ℕ × Stat = (r.cookie.bytes.now, view_of_stat r.stat) in
    omega (
      arith,
      length-append ((netobj & stat).written p) ((optional (has_holder p) (holder wide)).written (option_map view_of_holder r.holder)),
      both-length netobj stat p,
      opaque-length 1024 r.cookie.bytes.now,
      stat-length (view_of_stat r.stat),
      r.cookie.bounded,
      optional_holder_length wide (has_holder p) r.holder,
    )
