-- Laws of the connection's record: what sound means, and what callers read off it. Assumes nothing.
use Prim.Native.Nat.{ℕ, ◌≤◌}
use mathlib.Core.Path.{◌≡◌, refl}
use mathlib.Core.Bool.{Bool, true, false, ◌&&◌}
use lib.Dec.{eqb}
use Rattle.defs.specs.Limits.{max_timeout, is_ring_size}
use Rattle.defs.specs.Promises.{Exactly}
use Rattle.defs.proofs.Basics.{both}
use Rattle.defs.proofs.LimitLaws.{limits_mean, ring_sizes}
use Rattle.defs.proofs.MeansLaws.{same_means, in_words, and_means, equal_means}
use Rattle.txbuf.specs.Record.{sound_record, sound_of}
use Rattle.txbuf.proofs.Promises.{sound_means as ring_means}
use Rattle.txbuf.proofs.RecordLaws.{Fit, sound_says}
use Rattle.rules.specs.Record.{ok_settings, sound_conn, sound_over}
use Rattle.rules.specs.Answers.{InRange, Sound, SoundMeans}
use Rattle.rules.specs.declared.record.Settings.{Settings}
use Rattle.rules.specs.declared.record.VsockConnection.{VsockConnection}

pub settings_mean : (size : ℕ) (g : Settings) → Exactly (is_ring_size size && ok_settings g size ≡ true) (InRange size g)
unfolding ok_settings
settings_mean size g =
    in_words
    (and_means (ring_sizes size) (and_means (and_means (limits_mean.threshold g.threshold size) (limits_mean.timeout g.request_timeout)) (limits_mean.timeout g.shutdown_timeout))) (
      λ p. record { power = p.0.0; least = p.0.1; most = p.0.2; threshold = p.1.0.0; request = p.1.0.1; shutdown = p.1.1 },
      λ r. ((r.power, r.least, r.most), ((r.threshold, r.request), r.shutdown)),
    )

-- the ring's part and the settings' part, put together
alone_means : (c : VsockConnection) → Exactly (sound_conn c ≡ true) (Sound c)
unfolding sound_conn ok_settings
alone_means c =
    let g = c.settings in
    let size = c.tx_buf.size in
    in_words
    (and_means (ring_means.alone c.tx_buf) (and_means (and_means (limits_mean.threshold g.threshold size) (limits_mean.timeout g.request_timeout)) (limits_mean.timeout g.shutdown_timeout))) (
      λ p. record { settings = record { power = p.0.power; least = p.0.least; most = p.0.most; threshold = p.1.0.0; request = p.1.0.1; shutdown = p.1.1 }; held = p.0.within },
      λ r. let s = r.settings in (record { power = s.power; least = s.least; most = s.most; within = r.held }, ((s.threshold, s.request), s.shutdown)),
    )

over_parts : (a b c : Bool) → a && b && c ≡ a && c && b
over_parts true true true = refl
over_parts true true false = refl
over_parts true false true = refl
over_parts true false false = refl
over_parts false b c = refl

pub sound_means : SoundMeans
unfolding sound_over sound_conn sound_of
sound_means = record {
  alone = alone_means;
  over = λ c storage. same_means (over_parts (sound_record c.tx_buf) (eqb storage c.tx_buf.size) _) (and_means (alone_means c) (equal_means storage c.tx_buf.size));
}

-- ---- what callers read off it

abbrev Timely : VsockConnection → Type 0
Timely c = (c.settings.request_timeout ≤ max_timeout) × (c.settings.shutdown_timeout ≤ max_timeout)

pub timeouts : (c : VsockConnection) → sound_conn c ≡ true → Timely c
timeouts c e = let s = ((sound_means.alone c).0 e).settings in (s.request.1, s.shutdown.1)

pub sound_over_ring : (c : VsockConnection) (n : ℕ) → sound_over c n ≡ true → sound_of c.tx_buf n ≡ true
unfolding sound_over
sound_over_ring c n e = (both (sound_of c.tx_buf n) (ok_settings c.settings c.tx_buf.size) e).0

pub sound_over_says : (c : VsockConnection) (n : ℕ) → sound_over c n ≡ true → Fit c.tx_buf n × Timely c
sound_over_says c n e =
    let s = ((sound_means.over c n).0 e).0.settings in
    (sound_says c.tx_buf n (sound_over_ring c n e), (s.request.1, s.shutdown.1))
