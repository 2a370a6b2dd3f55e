-- The stories of specs/Stories: each is a run, each theorem is applied to it, and what it comes to is computed. Assumes nothing.
use Prim.Native.Nat.{ℕ}
use mathlib.Core.Path.{◌≡◌, refl, sym, ◌∙◌}
use mathlib.Core.Bool.{true, false}
use mathlib.Core.List.{List, [], ◌∷◌, ◌++◌}
use native.Mathlib.Omega.{arith}
use lib.ListN.{take, replicate}
use Rattle.std.specs.Prelude.{Some}
use Rattle.defs.specs.Choice.{when}
use Rattle.defs.specs.Answer.{when_done}
use Rattle.defs.specs.Limits.{is_ring_size, is_threshold, is_timeout, is_clock, is_packet_length, is_header_length}
use Rattle.defs.specs.Ladder.{door_of, late_of, lowest_of, record_answer, clock_answer}
use Rattle.defs.specs.Copying.{copied}
use Rattle.defs.specs.Credit.{peer_avail_credit, peer_needs_credit_update}
use Rattle.packet.specs.Uapi.{op_rst}
use Rattle.packet.specs.Header.{encoded, decoded}
use Rattle.packet.specs.Edges.{bytes_a}
use Rattle.runs.specs.Runs as runs
use Rattle.runs.specs.Runs.{none, then, gathered, Each}
use Rattle.txbuf.specs.Record.{used_of, sound_record, sound_of, held_from, held}
use Rattle.txbuf.specs.Push.{runs, push_done}
use Rattle.txbuf.specs.Flush.{taken_by, over_by, ends_by, flush_count, flush_over, flush_answer, flush_done, flush_kept, flush_of}
use Rattle.csm.specs.Turn.{turn_step, turn_reads}
use Rattle.csm.specs.Pending.{reset_only}
use Rattle.csm.specs.declared.state.ConnState.{ConnState}
use Rattle.csm.specs.declared.state.ConnState.TheVariants.{LocalInit, PeerInit, Established, LocalClosed, PeerClosed, Killed}
use Rattle.rules.specs.Record.{ok_settings, sound_conn, sound_over, quiet, credit_of, with_state, killed_of}
use Rattle.rules.specs.Notify.{seen_of, absorbed, settled_of, drained_of, notify_door, notify_answer, notify_done, notify_kept, notify_of}
use Rattle.rules.specs.Look.{kill_of}
use Rattle.rules.specs.Open.{fresh_of, open_answer, peer_init_of, local_init_of}
use Rattle.rules.specs.Receive.{spoken_of, received_of, header_of, recv_door, recv_refusal, recv_done, recv_kept, recv_of}
use Rattle.rules.specs.Send.{heard_of, moved_of, updated_of, on_response, on_shutdown, on_data, rule_of, goes_of, plan_of, kills_of, send_door_of, send_late, carried, send_door, send_answer, send_done, send_kept, send_of}
use Rattle.rules.specs.Runs.{Event, Start, before, after, store_after, Steps, Run, took_by, accepted_by, delivered_by, outs, Pushless}
use Rattle.rules.specs.Stories.{start_a, a1, a2, a3, a4, a5, a6, a7, store_a, story_a, up_to_a5, end_store_a, start_b, b1, b2, b3, b4, story_b, end_store_b, c3, c4, story_c, end_store_c, d2, store_d, d3, d4, d5, draining, start_e, e1, e2, e3, e4, e5, story_e, end_store_e, ten, f6, end_store_f, f7, story_f, g2, end_store_g, story_g, h2, h3, h4, h5, h6, store_h, i2, i3, store_i, k1, k2, k3, k4, k5, k6, k7, k8, store_k6, killing, heard_ops, by_hand, turn, store_f, StaysDead, StoriesHold}
use Rattle.rules.specs.declared.record.VsockConnection.{VsockConnection}
use Rattle.rules.proofs.RunLaws.{run_numbers, every_run_forwards, cuts_do_not_matter}
use Rattle.rules.proofs.FlagLaws.{flags_only_grow, killed_stays}
use Rattle.rules.proofs.TimerLaws.{closing_is_timed}
use Rattle.rules.proofs.DrainLaws.{drains}

up_to_a2 : Steps start_a.left.conn start_a.store (a2 ∷ a1 ∷ []) (after a2) store_a
up_to_a2 = then (then none a1 (refl, refl)) a2 (refl, refl, refl)

up_to_a5_lem : Run start_a up_to_a5 (after a5) (store_after (store_after store_a a3) a5)
up_to_a5_lem = record { opened = refl; steps = then (then (then up_to_a2 a3 (refl, refl, refl)) a4 (refl, refl, refl)) a5 (refl, refl, refl) }

up_to_a6 : Run start_a (a6 ∷ up_to_a5) (after a6) end_store_a
up_to_a6 = record { opened = refl; steps = then up_to_a5_lem.steps a6 (refl, refl, refl) }

run_a : Run start_a story_a (after a7) end_store_a
run_a = record { opened = refl; steps = then up_to_a6.steps a7 (refl, refl, refl) }

run_b : Run start_b story_b (after b4) end_store_b
run_b = record {
  opened = refl;
  steps = then (then (then (then none b1 (refl, refl)) b2 (refl, refl, refl)) b3 (refl, refl, refl)) b4 (refl, refl, refl);
}

run_c : Run start_a story_c (after c4) end_store_c
run_c = record { opened = refl; steps = then (then up_to_a2 c3 (refl, refl, refl)) c4 (refl, refl, refl) }

run_e : Run start_e story_e (after e5) end_store_e
run_e = record {
  opened = refl;
  steps =
      then (then (then (then (then none e1 (refl, refl, refl)) e2 (refl, refl, refl)) e3 (refl, refl, refl)) e4 (refl, refl, refl)) e5 (refl, refl, refl);
}

run_f : Run start_a story_f (after f7) end_store_f
run_f = record { opened = refl; steps = then (then up_to_a5_lem.steps f6 (refl, refl, refl)) f7 (refl, refl, refl) }

run_g : Run start_a story_g (after g2) end_store_g
run_g = record { opened = refl; steps = then (then none a1 (refl, refl)) g2 (refl, refl, refl) }

up_to_d2 : Run start_a (d2 ∷ a1 ∷ []) (after d2) store_d
up_to_d2 = record { opened = refl; steps = then (then none a1 (refl, refl)) d2 (refl, refl, refl) }

-- ---- kills

up_to_h2 : Run start_a (h2 ∷ a1 ∷ []) (after h2) store_h
up_to_h2 = record { opened = refl; steps = then (then none a1 (refl, refl)) h2 (refl, refl, refl) }

run_h3 : Run start_a (h3 ∷ h2 ∷ a1 ∷ []) (after h3) store_h
run_h3 = record { opened = refl; steps = then up_to_h2.steps h3 (refl, refl, refl) }

run_h4 : Run start_a (h4 ∷ h3 ∷ h2 ∷ a1 ∷ []) (after h4) store_h
run_h4 = record { opened = refl; steps = then run_h3.steps h4 (refl, refl) }

run_h5 : Run start_a (h5 ∷ h2 ∷ a1 ∷ []) (after h5) store_h
run_h5 = record { opened = refl; steps = then up_to_h2.steps h5 (refl, refl, refl) }

run_h6 : Run start_a (h6 ∷ h3 ∷ h2 ∷ a1 ∷ []) (after h6) (store_after store_h h6)
run_h6 = record { opened = refl; steps = then run_h3.steps h6 (refl, refl, refl) }

run_i3 : Run start_a (i3 ∷ i2 ∷ a1 ∷ []) (after i3) (store_after store_i i3)
run_i3 = record { opened = refl; steps = then (then (then none a1 (refl, refl)) i2 (refl, refl, refl)) i3 (refl, refl, refl) }

-- what is computed of a record that is killed
record Killing (c : VsockConnection) (store : List ℕ) (was : ConnState) : Type 0 where
  state : c.state ≡ was
  dies : (after (k1 c)).state ≡ Killed
  heard : heard_ops (killing c store) ≡ op_rst ∷ op_rst ∷ []

-- whatever run it ends, what follows its kill are calls in turn from there
stays_dead : (s : Start) (t : List Event) (c : VsockConnection) (store : List ℕ) (was : ConnState) → Run s t c store → Killing c store was → StaysDead s t c store was
stays_dead s t c store was r k = record {
  run = r;
  state = k.state;
  dies = k.dies;
  heard = k.heard;
  dead =
      killed_stays s (k1 c ∷ t) (after (k1 c)) store (record { opened = r.opened; steps = then r.steps (k1 c) (refl, refl) }) k.dies
      (k8 c store ∷ k7 c store ∷ k6 c store ∷ k5 c store ∷ k4 c store ∷ k3 c ∷ k2 c ∷ []) (after (k8 c store)) (store_k6 c store)
      (then
      (then (then (then (then (then (then none (k2 c) (refl, refl)) (k3 c) (refl, refl)) (k4 c store) (refl, refl, refl)) (k5 c store) (refl, refl, refl)) (k6 c store) (refl, refl, refl)) (k7 c store) (refl, refl, refl))
      (k8 c store) (refl, refl));
}

drain_steps : Steps (after d2) store_d draining (after d5) store_d
drain_steps = then (then (then none d3 (refl, refl, refl)) d4 (refl, refl)) d5 (refl, refl, refl)

-- ---- what the stories come to

record Computed : Type 0 where
  taken_a : gathered took_by story_a ≡ ten
  accepted_a : gathered accepted_by story_a ≡ ten
  empty_a : used_of (after a7).tx_buf ≡ 0
  taken_b : gathered took_by story_b ≡ ten
  accepted_b : gathered accepted_by story_b ≡ ten
  empty_b : used_of (after b4).tx_buf ≡ 0
  taken_c : gathered took_by story_c ≡ ten
  accepted_c : gathered accepted_by story_c ≡ ten
  empty_c : used_of (after c4).tx_buf ≡ 0
  taken_e : gathered took_by story_e ≡ replicate 12 7 ++ ten
  accepted_e : gathered accepted_by story_e ≡ replicate 12 7 ++ ten
  empty_e : used_of (after e5).tx_buf ≡ 0
  taken_f : gathered took_by story_f ≡ ten ++ take 3 ten
  accepted_f : gathered accepted_by story_f ≡ ten ++ take 3 ten
  empty_f : used_of (after f7).tx_buf ≡ 0
  taken_g : gathered took_by story_g ≡ take 3 ten
  accepted_g : gathered accepted_by story_g ≡ take 3 ten
  empty_g : used_of (after g2).tx_buf ≡ 0
  killed_c : (after c3).state ≡ Killed
  killed_g : (after g2).state ≡ Killed
  refused_a : after a3 ≡ before a3
  half_off : (after a5).state ≡ PeerClosed true false
  both_off : (after a6).state ≡ PeerClosed true true
  held_6 : used_of (after a6).tx_buf ≡ 6
  timer_6 : (after a6).expiry ≡ Some 2000
  header : gathered delivered_by story_a ≡ bytes_a ∷ []
  head_2 : (after d2).tx_buf.head ≡ 2
  head_3 : (after d3).tx_buf.head ≡ 2
  head_4 : (after d4).tx_buf.head ≡ 2
  head_5 : (after d5).tx_buf.head ≡ 2
  held_2 : used_of (after d2).tx_buf ≡ 2
  outs_2 : outs draining ≡ 2
  local_init : Killing start_e.left.conn start_e.store LocalInit
  peer_init : Killing start_a.left.conn start_a.store PeerInit
  established : Killing (after h3) store_h Established
  local_closed : Killing (after h4) store_h LocalClosed
  peer_closed : Killing (after a5) store_f (PeerClosed true false)
  both_closed : Killing (after a6) end_store_a (PeerClosed true true)
  flush : Killing (after h5) store_h Killed
  full : Killing (after h6) (store_after store_h h6) Killed
  write : Killing (after i3) (store_after store_i i3) Killed
  owed_h : (after h3).pending_rx ≡ record { request = false; response = false; rst = false; rw = true; credit_update = true }
  owed_i : (after i2).pending_rx.credit_update ≡ true
  flush_fails : (after h5).pending_rx ≡ reset_only
  ring_full : (after h6).pending_rx ≡ reset_only
  write_fails : (after i3).pending_rx ≡ reset_only
  by_hand : (after (turn by_hand)).state ≡ Established

computed : Computed
unfolding when when_done is_ring_size is_threshold is_timeout is_clock is_packet_length is_header_length door_of late_of lowest_of record_answer clock_answer copied peer_avail_credit peer_needs_credit_update encoded decoded sound_record sound_of held_from held runs push_done taken_by over_by ends_by flush_count flush_over flush_answer flush_done flush_kept flush_of ok_settings sound_conn sound_over quiet credit_of with_state killed_of seen_of absorbed settled_of drained_of notify_door notify_answer notify_done notify_kept notify_of fresh_of open_answer peer_init_of local_init_of turn_step spoken_of received_of header_of recv_door turn_reads recv_refusal recv_done recv_kept recv_of heard_of moved_of updated_of on_response on_shutdown on_data rule_of goes_of plan_of kills_of send_door_of send_late carried send_door send_answer send_done send_kept send_of gathered runs.outs kill_of
computed = record {
  taken_a = refl;
  accepted_a = refl;
  empty_a = refl;
  taken_b = refl;
  accepted_b = refl;
  empty_b = refl;
  taken_c = refl;
  accepted_c = refl;
  empty_c = refl;
  taken_e = refl;
  accepted_e = refl;
  empty_e = refl;
  taken_f = refl;
  accepted_f = refl;
  empty_f = refl;
  taken_g = refl;
  accepted_g = refl;
  empty_g = refl;
  killed_c = refl;
  killed_g = refl;
  refused_a = refl;
  half_off = refl;
  both_off = refl;
  held_6 = refl;
  timer_6 = refl;
  header = refl;
  head_2 = refl;
  head_3 = refl;
  head_4 = refl;
  head_5 = refl;
  held_2 = refl;
  outs_2 = refl;
  local_init = record { state = refl; dies = refl; heard = refl };
  peer_init = record { state = refl; dies = refl; heard = refl };
  established = record { state = refl; dies = refl; heard = refl };
  local_closed = record { state = refl; dies = refl; heard = refl };
  peer_closed = record { state = refl; dies = refl; heard = refl };
  both_closed = record { state = refl; dies = refl; heard = refl };
  flush = record { state = refl; dies = refl; heard = refl };
  full = record { state = refl; dies = refl; heard = refl };
  write = record { state = refl; dies = refl; heard = refl };
  owed_h = refl;
  owed_i = refl;
  flush_fails = refl;
  ring_full = refl;
  write_fails = refl;
  by_hand = refl;
}

none_pushed : Pushless draining
unfolding Each
none_pushed = let v = computed in (v.head_5 ∙ sym v.head_4, (v.head_4 ∙ sym v.head_3, (v.head_3 ∙ sym v.head_2, tt)))

two_drained : used_of (after d5).tx_buf ≡ 0
two_drained = drains draining (after d2) (after d5) store_d store_d (run_numbers up_to_d2) drain_steps none_pushed (omega (arith, computed.held_2, computed.outs_2))

pub stories_hold : StoriesHold
stories_hold =
    let v = computed in
    record {
      shut_down = record { run = run_a; forwards = every_run_forwards _ _ _ _ run_a; taken = v.taken_a; accepted = v.accepted_a; empty = v.empty_a };
      other_cut = record { run = run_b; forwards = every_run_forwards _ _ _ _ run_b; taken = v.taken_b; accepted = v.accepted_b; empty = v.empty_b };
      killed = record { run = run_c; forwards = every_run_forwards _ _ _ _ run_c; taken = v.taken_c; accepted = v.accepted_c; empty = v.empty_c };
      both_pieces = record { run = run_e; forwards = every_run_forwards _ _ _ _ run_e; taken = v.taken_e; accepted = v.accepted_e; empty = v.empty_e };
      peer_closed = record { run = run_f; forwards = every_run_forwards _ _ _ _ run_f; taken = v.taken_f; accepted = v.accepted_f; empty = v.empty_f };
      taken_in_part = record { run = run_g; forwards = every_run_forwards _ _ _ _ run_g; taken = v.taken_g; accepted = v.accepted_g; empty = v.empty_g };
      is_killed = v.killed_c;
      is_closed = v.half_off;
      dies_in_part = v.killed_g;
      refused = v.refused_a;
      alike = cuts_do_not_matter _ _ _ _ _ _ _ _ run_a run_b (v.accepted_a ∙ sym v.accepted_b) v.empty_a v.empty_b;
      grown = flags_only_grow _ _ _ _ up_to_a5_lem a6 (refl, refl, refl) true false v.half_off;
      both_off = v.both_off;
      six_held = v.held_6;
      timed = closing_is_timed _ _ _ _ up_to_a6 v.both_off (omega (arith, v.held_6));
      timer = v.timer_6;
      two_held = v.held_2;
      draining_is = drain_steps;
      two_outs = v.outs_2;
      none_pushed = none_pushed;
      drained = two_drained;
      first_header = v.header;
      dead_local_init = stays_dead _ _ _ _ _ (record { opened = refl; steps = none }) v.local_init;
      dead_peer_init = stays_dead _ _ _ _ _ (record { opened = refl; steps = none }) v.peer_init;
      dead_established = stays_dead _ _ _ _ _ run_h3 v.established;
      dead_local_closed = stays_dead _ _ _ _ _ run_h4 v.local_closed;
      dead_peer_closed = stays_dead _ _ _ _ _ up_to_a5_lem v.peer_closed;
      dead_both_closed = stays_dead _ _ _ _ _ up_to_a6 v.both_closed;
      owed = v.owed_h;
      owed_update = v.owed_i;
      flush_fails = v.flush_fails;
      ring_full = v.ring_full;
      write_fails = v.write_fails;
      dead_flush = stays_dead _ _ _ _ _ run_h5 v.flush;
      dead_full = stays_dead _ _ _ _ _ run_h6 v.full;
      dead_write = stays_dead _ _ _ _ _ run_i3 v.write;
      by_hand = v.by_hand;
    }
