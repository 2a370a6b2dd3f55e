-- 01's readings of a connection, computed from the definitions. Assumes nothing.
use mathlib.Core.Path.{refl}
use Rattle.defs.specs.Look.{flag_of}
use Rattle.defs.specs.Choice.{when}
use Rattle.defs.specs.Answer.{when_done}
use Rattle.defs.specs.Limits.{is_ring_size, is_threshold, is_timeout, is_clock, is_packet_length, is_header_length}
use Rattle.defs.specs.Ladder.{door_of, late_of, lowest_of, record_answer, clock_answer}
use Rattle.defs.specs.Copying.{copied}
use Rattle.defs.specs.Credit.{peer_avail_credit, peer_needs_credit_update}
use Rattle.packet.specs.Header.{encoded, decoded}
use Rattle.txbuf.specs.Record.{sound_record, sound_of, held_from, held}
use Rattle.txbuf.specs.Push.{runs, push_done}
use Rattle.txbuf.specs.Flush.{first_piece, second_piece, taken_by, over_by, ends_by, flush_count, flush_over, flush_answer, flush_done, flush_kept, flush_of}
use Rattle.csm.specs.Turn.{turn_step, turn_reads}
use Rattle.rules.specs.Record.{ok_settings, sound_conn, sound_over, quiet, credit_of, with_state, killed_of}
use Rattle.rules.specs.Look.{ev_set_of, kill_of}
use Rattle.rules.specs.Notify.{seen_of, absorbed, settled_of, drained_of, notify_door, notify_answer, notify_done, notify_kept, notify_of}
use Rattle.rules.specs.Offer.{notify_flushes, notify_first, notify_second}
use Rattle.rules.specs.Open.{fresh_of, zero_conn, open_answer, peer_init_of, local_init_of}
use Rattle.rules.specs.Receive.{spoken_of, received_of, header_of, recv_door, recv_refusal, recv_done, recv_kept, recv_of}
use Rattle.rules.specs.Send.{heard_of, moved_of, updated_of, on_response, on_shutdown, on_data, rule_of, goes_of, plan_of, kills_of, send_door_of, send_late, carried, send_door, send_answer, send_done, send_kept, send_of}
use Rattle.rules.specs.Edges.{reading_a, reading_bcd, reading_e, reading_f, reading_g, reading_h, reading_i, reading_k, reading_l, reading_r}
use Rattle.rules.specs.Promises.{EdgesHold}

pub edges_hold : EdgesHold
unfolding when when_done is_ring_size is_threshold is_timeout is_clock is_packet_length is_header_length door_of late_of lowest_of copied peer_avail_credit peer_needs_credit_update encoded decoded sound_record sound_of held_from held record_answer runs push_done ok_settings sound_conn sound_over quiet credit_of with_state killed_of ev_set_of fresh_of open_answer peer_init_of local_init_of turn_step spoken_of received_of header_of recv_door turn_reads recv_refusal recv_done recv_kept recv_of heard_of moved_of updated_of on_response on_shutdown on_data rule_of goes_of plan_of kills_of send_door_of send_late carried send_door taken_by over_by ends_by flush_count flush_over flush_answer flush_done flush_kept flush_of seen_of absorbed settled_of drained_of notify_door notify_answer notify_done notify_kept notify_of first_piece second_piece notify_flushes notify_first notify_second clock_answer flag_of send_answer send_done send_kept send_of reading_a reading_bcd reading_e reading_f reading_g reading_h reading_i reading_k reading_l reading_r kill_of zero_conn
edges_hold = record {
  a = (refl, (refl, tt));
  bcd = (refl, (refl, (refl, (refl, (refl, (refl, (refl, tt)))))));
  e = (refl, (refl, (refl, tt)));
  f = (refl, (refl, (refl, (refl, (refl, (refl, tt))))));
  g = (refl, (refl, tt));
  h = (refl, (refl, (refl, tt)));
  i = (refl, (refl, tt));
  k = (refl, (refl, (refl, (refl, (refl, (refl, tt))))));
  l = (refl, (refl, (refl, tt)));
  r = (refl, (refl, (refl, (refl, (refl, (refl, tt))))));
}
