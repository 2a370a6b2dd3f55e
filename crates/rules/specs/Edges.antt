-- The readings of 01 that a connection decides (R = 16, T = 4, timeouts 2,000): a to i, k as 2026-08 has it and l as 2026-07 has it; and R's limit, as 2026-10 has it. Assumes nothing.
use Rattle.std.specs.Prelude.{ℕ, Bool, true, false, List, [], ◌∷◌, ◌++◌, map, length, take, replicate, None, Some, Err}
use Rattle.defs.specs.Answer.{Told, told, done}
use Rattle.defs.specs.Look.{FlagLeft}
use Rattle.defs.specs.Reading.{Reading, ◌reads◌}
use Rattle.defs.specs.declared.answer.Refusal.TheVariants.{BadRecord}
use Rattle.defs.specs.declared.stream.StreamAnswer.TheVariants.{Count, WouldBlock, Failed}
use Rattle.defs.specs.declared.stream.StreamAnswer.{StreamAnswer}
use Rattle.packet.specs.Uapi.{op_response, op_rst, op_shutdown, op_rw, op_credit_request, type_stream}
use Rattle.packet.specs.Header.{decoded, encoded}
use Rattle.packet.specs.Edges.{bytes_a}
use Rattle.txbuf.specs.Record.{held}
use Rattle.txbuf.specs.Edges.{places, untaken, ten, eleven}
use Rattle.txbuf.specs.declared.record.TxBuf.{TxBuf}
use Rattle.csm.specs.Pending.{none}
use Rattle.csm.specs.declared.pending.PendingRxSet.{PendingRxSet}
use Rattle.csm.specs.Timer.{Timer}
use Rattle.csm.specs.declared.state.ConnState.TheVariants.{Established, LocalClosed, Killed}
use Rattle.rules.specs.Record.{credit_of, with_state}
use Rattle.rules.specs.Open.{fresh_of, zero_conn, peer_init_of, local_init_of, Opening, ConnLeft}
use Rattle.rules.specs.Look.{has_expired_of, ev_set_of, kill_of}
use Rattle.rules.specs.Notify.{NotifyLeft, notify_of}
use Rattle.rules.specs.Offer.{notify_first, notify_second}
use Rattle.rules.specs.Receive.{RecvLeft, recv_of}
use Rattle.rules.specs.Send.{SendLeft, send_of}
use Rattle.rules.specs.declared.record.VsockConnection.{VsockConnection}

-- an opening by R, T and the guest's space: CIDs 2 and 3, ports 1024 and 5000
abbrev sized : ℕ → ℕ → ℕ → Opening
sized size threshold alloc = record {
  size = size;
  settings = record { threshold = threshold; request_timeout = 2000; shutdown_timeout = 2000 };
  local_cid = 2;
  peer_cid = 3;
  local_port = 1024;
  peer_port = 5000;
  alloc = alloc;
}

-- R = 16, T = 4, with so much space
abbrev opening : ℕ → Opening
opening alloc = sized 16 4 alloc

abbrev ring : ℕ → TxBuf
ring head = record { size = 16; head = head; tail = 0 }

-- a turn to speak with a read answer of no bytes
abbrev turn : VsockConnection → Bool → StreamAnswer → RecvLeft
turn c present a = recv_of (record { conn = c; hdr = replicate 44 9; present = present; buf = []; clock = 0; answer = a; read = [] })

abbrev after_a : RecvLeft
after_a = turn (peer_init_of (opening 100)).conn false WouldBlock

-- a: the first receive, whole; the connection is established
unfoldable pub reading_a : List Reading
reading_a = (after_a.hdr reads bytes_a) ∷ (after_a.conn.state reads Established) ∷ []

-- the header of a packet of the guest's: op, flags, len
abbrev pub packet : ℕ → ℕ → ℕ → List ℕ
packet op flags len =
    encoded (record { src_cid = 3; dst_cid = 2; src_port = 5000; dst_port = 1024; len = len; type_ = type_stream; op = op; flags = flags; buf_alloc = 100; fwd_cnt = 0 })

-- a packet at this time with this data, of which the stream takes so many bytes
abbrev comes : VsockConnection → List ℕ → ℕ → List ℕ → List ℕ → ℕ → SendLeft
comes c store clock hdr bytes taken = send_of (record {
  conn = c;
  store = store;
  hdr = hdr;
  present = true;
  buf = bytes;
  clock = clock;
  answers = record { first = Count taken; second = WouldBlock };
  out = replicate taken 99;
})

abbrev brings : VsockConnection → List ℕ → ℕ → List ℕ → SendLeft
brings c store taken bytes = comes c store 0 (packet op_rw 0 (length bytes)) bytes taken

-- the first 4 of b's 10 bytes
abbrev taken : List ℕ
taken = 30 ∷ 31 ∷ 32 ∷ 33 ∷ []

abbrev after_b : SendLeft
after_b = brings after_a.conn places 4 (taken ++ untaken)

abbrev after_c : SendLeft
after_c = brings after_b.conn after_b.store 0 ten

abbrev after_d : SendLeft
after_d = brings after_b.conn after_b.store 0 eleven

-- b: 4 taken, 6 held, count 4, no update. c: 16 held. d: killed, 6 held
unfoldable pub reading_bcd : List Reading
reading_bcd =
    (after_b.out reads taken)
    ∷ (held after_b.conn.tx_buf after_b.store reads untaken)
    ∷ (after_b.conn.fwd_cnt reads 4)
    ∷ (after_b.conn.pending_rx.credit_update reads false)
    ∷ (held after_c.conn.tx_buf after_c.store reads untaken ++ ten)
    ∷ (after_d.conn.state reads Killed)
    ∷ (held after_d.conn.tx_buf after_d.store reads untaken)
    ∷ []

-- data of so many bytes, all taken: count minus told is so much, and whether an update is set
abbrev owes : ℕ → Bool
owes n = (brings after_a.conn (replicate 16 0) n (replicate n 1)).conn.pending_rx.credit_update

-- e: 12: none; 13: update; 17: wraps, none
unfoldable pub reading_e : List Reading
reading_e = (owes 12 reads false) ∷ (owes 13 reads true) ∷ (owes 17 reads false) ∷ []

-- data is to be read
abbrev to_read : PendingRxSet
to_read = record { request = false; response = false; rst = false; rw = true; credit_update = false }

-- established, data to be read, and so much credit
abbrev reader : ℕ → VsockConnection
reader alloc = fresh_of (opening alloc) Established to_read

-- g: credit 1, buffer of 0 bytes, read answer 0: LocalClosed. Credit 0, no buffer: CREDIT_REQUEST
unfoldable pub reading_g : List Reading
reading_g =
    ((turn (reader 1) true (Count 0)).conn.state reads LocalClosed)
    ∷ ((decoded (turn (reader 0) false WouldBlock).hdr).op reads op_credit_request)
    ∷ []

-- established, with a ring, the numbers of credit and a timer
abbrev standing : TxBuf → ℕ → ℕ → ℕ → Timer → VsockConnection
standing tx alloc sent forwarded timer = record {
  settings = (opening alloc).settings;
  state = Established;
  local_cid = 2;
  peer_cid = 3;
  local_port = 1024;
  peer_port = 5000;
  tx_buf = tx;
  fwd_cnt = 0;
  peer_buf_alloc = alloc;
  peer_fwd_cnt = forwarded;
  rx_cnt = sent;
  last_fwd_cnt_to_peer = 0;
  pending_rx = none;
  expiry = timer;
}

abbrev before_f : VsockConnection
before_f = standing (record { size = 16; head = 20; tail = 12 }) 100 0 0 None

abbrev after_f : NotifyLeft
after_f = notify_of (record {
  conn = before_f;
  readable = false;
  writable = true;
  store = places;
  answers = record { first = Count 4; second = Failed };
  out = take 8 ten;
})

-- f: pieces at 12..16 and 0..4; 4 taken, then failure: 4, tail 16, not killed
unfoldable pub reading_f : List Reading
reading_f =
    (notify_first before_f true places reads 12 ∷ 13 ∷ 14 ∷ 15 ∷ [])
    ∷ (notify_second before_f true places reads 0 ∷ 1 ∷ 2 ∷ 3 ∷ [])
    ∷ (after_f.conn.fwd_cnt reads 4)
    ∷ (after_f.conn.tx_buf reads record { size = 16; head = 20; tail = 16 })
    ∷ (after_f.conn.state reads Established)
    ∷ (after_f.out reads 12 ∷ 13 ∷ 14 ∷ 15 ∷ 54 ∷ 55 ∷ 56 ∷ 57 ∷ [])
    ∷ []

-- alloc 10, sent 14, peer fwd 2
abbrev shrunk : VsockConnection
shrunk = standing (ring 0) 10 14 2 None

-- h: no credit; data that is to be read becomes a CREDIT_REQUEST; and none is polled for
unfoldable pub reading_h : List Reading
reading_h =
    (credit_of shrunk reads 0)
    ∷ ((decoded (turn (with_state shrunk Established None to_read) true (Count 0)).hdr).op reads op_credit_request)
    ∷ (ev_set_of shrunk true reads record { answer = told done; readable = false; writable = false })
    ∷ []

-- i: a timer of 500 has expired at 500, and not before
abbrev expired : ℕ → FlagLeft
expired clock = has_expired_of (record { conn = standing (ring 0) 100 0 0 (Some 500); clock = clock })

unfoldable pub reading_i : List Reading
reading_i =
    (expired 499 reads record { answer = told done; holds = false }) ∷ (expired 500 reads record { answer = told done; holds = true }) ∷ []

-- one byte is held
abbrev holding : VsockConnection → VsockConnection
holding c = (brings c places 0 (1 ∷ [])).conn

-- a SHUTDOWN with these flags at this time
abbrev shuts : VsockConnection → ℕ → ℕ → VsockConnection
shuts c flags clock = (comes c places clock (packet op_shutdown flags 0) [] 0).conn

-- flag 1 at 1,000, then flag 2 at 1,500
abbrev half : VsockConnection
half = shuts (holding after_a.conn) 1 1000

abbrev whole : VsockConnection
whole = shuts half 2 1500

-- opened by the host: the RESPONSE comes before the REQUEST is said, at 0, and so the request's timer runs in Established
abbrev asking : VsockConnection
asking = (turn (comes (local_init_of (opening 0)).conn places 0 (packet op_response 0 0) [] 0).conn false WouldBlock).conn

-- k: SHUTDOWN 3 at 1,000: timer 3,000. SHUTDOWN 1, then 2 at 1,500: none, then 3,500, also after a third. One that runs stays, also where it has expired
unfoldable pub reading_k : List Reading
reading_k =
    ((shuts (holding after_a.conn) 3 1000).expiry reads Some 3000)
    ∷ (half.expiry reads None)
    ∷ (whole.expiry reads Some 3500)
    ∷ ((shuts whole 3 1800).expiry reads Some 3500)
    ∷ ((shuts (holding asking) 3 1000).expiry reads Some 2000)
    ∷ ((shuts (holding asking) 3 2500).expiry reads Some 2000)
    ∷ []

-- killed in PeerInit, then a turn to speak, then another
abbrev reset : RecvLeft
reset = turn (kill_of (peer_init_of (opening 100)).conn).conn false WouldBlock

abbrev silent : RecvLeft
silent = turn reset.conn false WouldBlock

-- l: RST; then answer 7, and Killed
unfoldable pub reading_l : List Reading
reading_l = ((decoded reset.hdr).op reads op_rst) ∷ (silent.answer.number reads 7) ∷ (silent.conn.state reads Killed) ∷ []

-- the guest's opening and the host's, where T is R
abbrev openings : ℕ → List ConnLeft
openings size = peer_init_of (sized size size 100) ∷ local_init_of (sized size size 0) ∷ []

-- answer and ring of each
abbrev rings : List ConnLeft → List (Told × TxBuf)
rings lefts = map (λ (left : ConnLeft). (left.answer, left.conn.tx_buf)) lefts

-- both are done, with an empty ring of that size; both are refused, with the all-zero record
abbrev opened : ℕ → List (Told × TxBuf)
opened size = replicate 2 (told done, record { size = size; head = 0; tail = 0 })

abbrev refused : List ConnLeft
refused = replicate 2 (record { answer = told (Err BadRecord); conn = zero_conn })

-- R, as 2026-10 has it: over the 65,536 of before, up to 1,048,576; then one less, one more, and the next power of two
unfoldable pub reading_r : List Reading
reading_r =
    (rings (openings 131072) reads opened 131072)
    ∷ (rings (openings 524288) reads opened 524288)
    ∷ (rings (openings 1048576) reads opened 1048576)
    ∷ (openings 1048575 reads refused)
    ∷ (openings 1048577 reads refused)
    ∷ (openings 2097152 reads refused)
    ∷ []
