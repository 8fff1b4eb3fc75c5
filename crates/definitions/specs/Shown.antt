-- What a version shows of an answer: version 4 shows it as it is, versions 1 and 3 what they have words for (XNFS, nlm_stats and nlm_holder).
use Rattle.std.specs.Prelude.{ℕ, ◌+◌, ◌-◌, false, cond, leb, min, [], pos, Some, None}
use Rattle.definitions.specs.Bytes.{Bytes}
use Rattle.definitions.specs.Nlm.{Version, V1, V3, V4, Stat, GRANTED, DENIED, DENIED_NOLOCKS, BLOCKED, DENIED_GRACE_PERIOD, DEADLCK, ROFS, STALE_FH, FBIG, FAILED, Res, Holder, TestRes, ShareRes, is_denial}
use Rattle.definitions.specs.Ranges.{shown_len, holder_of}
use Rattle.definitions.specs.Starts.{Run}

-- ---- the status

-- versions 1 and 3 end with the status 4: a deadlock and a stale handle are a denial there, as is what never arises in them
abbrev pub narrow_stat : Stat → Stat
narrow_stat GRANTED = GRANTED
narrow_stat DENIED = DENIED
narrow_stat DENIED_NOLOCKS = DENIED_NOLOCKS
narrow_stat BLOCKED = BLOCKED
narrow_stat DENIED_GRACE_PERIOD = DENIED_GRACE_PERIOD
narrow_stat DEADLCK = DENIED
narrow_stat STALE_FH = DENIED
narrow_stat ROFS = DENIED
narrow_stat FBIG = DENIED
narrow_stat FAILED = DENIED

abbrev pub shown_stat : Version → Stat → Stat
shown_stat V1 s = narrow_stat s
shown_stat V3 s = narrow_stat s
shown_stat V4 s = s

-- ---- the holder

-- the greatest offset of versions 1 and 3
abbrev pub narrow_top : ℕ
narrow_top = 0xffff_ffff

-- the length of first to last, and 0 where last is the greatest offset of 4 bytes or lies behind it
abbrev pub narrow_len : ℕ → ℕ → ℕ
narrow_len first last = cond (leb narrow_top last) 0 (last + 1 - first)

-- where a run begins, or the greatest offset of 4 bytes where it begins behind that
abbrev pub offset_in : Version → ℕ → ℕ
offset_in V1 first = min first narrow_top
offset_in V3 first = min first narrow_top
offset_in V4 first = first

abbrev pub len_in : Version → ℕ → ℕ → ℕ
len_in V1 first last = narrow_len first last
len_in V3 first last = narrow_len first last
len_in V4 first last = shown_len first last

abbrev pub shown_holder : Version → Run → Holder
shown_holder version run = record (holder_of run) { l_offset = offset_in version run.first; l_len = len_in version run.first run.last }

-- the holder of a denial that has none
abbrev pub nobody : Holder
nobody = record { exclusive = false; svid = pos 0; oh = []; l_offset = 0; l_len = 0 }

-- ---- the results

abbrev pub res : Version → Bytes → Stat → Res
res version cookie stat = record { cookie = cookie; stat = shown_stat version stat }

abbrev pub share_res : Version → Bytes → Stat → ShareRes
share_res version cookie stat = record { cookie = cookie; stat = shown_stat version stat; sequence = pos 0 }

-- a TEST that meets no lock, or is refused before any is looked for: a holder follows exactly where a denial is shown
abbrev pub free_test : Version → Bytes → Stat → TestRes
free_test version cookie stat = record {
  cookie = cookie;
  stat = shown_stat version stat;
  holder = cond (is_denial (shown_stat version stat)) (Some nobody) None;
}

-- and one that meets this run
abbrev pub held_test : Version → Bytes → Run → TestRes
held_test version cookie run = record { cookie = cookie; stat = DENIED; holder = Some (shown_holder version run) }
