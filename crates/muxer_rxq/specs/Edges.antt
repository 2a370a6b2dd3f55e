-- The readings of 01 that the RX queue decides: j (Q = 2), the limits on both sides of Q's, and a build from the largest table; and a build with as many slots pending as the limit, and with one more. Assumes nothing.
use Rattle.std.specs.Prelude.{ℕ, ◌+◌, ◌*◌, ◌^◌, Bool, true, false, List, [], ◌∷◌, replicate, Err}
use Rattle.defs.specs.Answer.{told, done}
use Rattle.defs.specs.Reading.{Reading, ◌reads◌}
use Rattle.defs.specs.declared.answer.Refusal.TheVariants.{BadRecord, NotQueued}
use Rattle.conn_map.specs.Edges.{last_two}
use Rattle.queue.specs.Queued.{QueuedLeft, new_of}
use Rattle.muxer_rxq.specs.Queue.{rxq, pack, MuxerRxQ}
use Rattle.muxer_rxq.specs.Push.{push_of}
use Rattle.muxer_rxq.specs.Pop.{PopLeft, pop_of}
use Rattle.muxer_rxq.specs.Build.{build_of}
use Rattle.muxer_rxq.specs.declared.rxq.MuxerRx.{MuxerRx}

-- a connection and an RST, told by their local port
abbrev conn : ℕ → MuxerRx
conn n = record { rst = false; local_port = n; peer_port = 0 }

abbrev rst : ℕ → MuxerRx
rst n = record { rst = true; local_port = n; peer_port = 0 }

abbrev two : MuxerRx → MuxerRx → Bool → MuxerRxQ
two a b synced = pack (a ∷ b ∷ []) 2 synced

abbrev after_r : QueuedLeft MuxerRxQ
after_r = push_of (record { queue = two (conn 1) (conn 2) true; rx = rst 8 })

abbrev after_s : QueuedLeft MuxerRxQ
after_s = push_of (record { queue = after_r.queue; rx = rst 9 })

abbrev popped : PopLeft
popped = pop_of after_s.queue

-- j: [C1 C2]: RST r gives [C1 r], s gives [s r], a third 11; pop, then an RST: 11, not full
unfoldable pub reading_j : List Reading
reading_j =
    (after_r reads record { answer = told done; queue = two (conn 1) (rst 8) false })
    ∷ (after_s reads record { answer = told done; queue = two (rst 9) (rst 8) false })
    ∷ (push_of (record { queue = after_s.queue; rx = rst 10 }) reads record { answer = told (Err NotQueued); queue = two (rst 9) (rst 8) false })
    ∷ (popped reads record { answer = told done; found = true; given = rst 9; queue = pack (rst 8 ∷ []) 2 false })
    ∷ (push_of (record { queue = popped.queue; rx = rst 10 }) reads record { answer = told (Err NotQueued); queue = pack (rst 8 ∷ []) 2 false })
    ∷ []

-- the ports of a slot, and its connection, told by the local port; the peer port is 7
abbrev slot : ℕ → ℕ
slot n = n * 2 ^ 32 + 7

abbrev conn_of : ℕ → MuxerRx
conn_of n = record { rst = false; local_port = n; peer_port = 7 }

-- a build from four slots, the last not used, by its limit and by which of them are pending
abbrev built : ℕ → List ℕ → QueuedLeft MuxerRxQ
built limit pending =
    build_of (record { limit = limit; ports = slot 1 ∷ slot 2 ∷ slot 3 ∷ slot 4 ∷ []; used = 1 ∷ 1 ∷ 1 ∷ 0 ∷ []; pending = pending })

-- what is answered with a queue; answer 1 with an empty, synced one of limit 0
abbrev gives : MuxerRxQ → QueuedLeft MuxerRxQ
gives queue = record { answer = told done; queue = queue }

abbrev refused : QueuedLeft MuxerRxQ
refused = record { answer = told (Err BadRecord); queue = pack [] 0 true }

-- Q = 2: two slots pending, and three: the first two, and unsynced; none pending; limits 0 and 513
unfoldable pub builds : List Reading
builds =
    (built 2 (1 ∷ 0 ∷ 1 ∷ 1 ∷ []) reads gives (pack (conn_of 1 ∷ conn_of 3 ∷ []) 2 true))
    ∷ (built 2 (1 ∷ 1 ∷ 1 ∷ 1 ∷ []) reads gives (pack (conn_of 1 ∷ conn_of 2 ∷ []) 2 false))
    ∷ (built 2 (0 ∷ 0 ∷ 0 ∷ 1 ∷ []) reads gives (pack [] 2 true))
    ∷ (built 0 (1 ∷ 0 ∷ 1 ∷ 1 ∷ []) reads refused)
    ∷ (built 513 (1 ∷ 0 ∷ 1 ∷ 1 ∷ []) reads refused)
    ∷ []

-- Q, as 2026-10 has it: over the 256 of before, the most, and one more
unfoldable pub reading_q : List Reading
reading_q = (new_of rxq 257 reads gives (pack [] 257 true)) ∷ (new_of rxq 512 reads gives (pack [] 512 true)) ∷ (new_of rxq 513 reads refused) ∷ []

-- a build from a table of so many slots, of which the last two are used; all are pending
abbrev wide : ℕ → ℕ → QueuedLeft MuxerRxQ
wide limit slots =
    build_of
    (record {
      limit = limit;
      ports = last_two slots (slot 1) (slot 2);
      used = last_two slots 1 1;
      pending = replicate slots 1;
    })

-- the table, as 2026-10 has it: over the 512 slots of before, the most, and one more; the most with one slot more pending than the limit
unfoldable pub reading_slots : List Reading
reading_slots =
    (wide 512 513 reads gives (pack (conn_of 1 ∷ conn_of 2 ∷ []) 512 true))
    ∷ (wide 512 1024 reads gives (pack (conn_of 1 ∷ conn_of 2 ∷ []) 512 true))
    ∷ (wide 512 1025 reads refused)
    ∷ (wide 1 1024 reads gives (pack (conn_of 1 ∷ []) 1 false))
    ∷ []
