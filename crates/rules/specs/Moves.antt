-- What a call moves (demand 3, over one call): the bytes that it offers, those of them that the stream took, and those that are accepted. Assumes nothing.
use Rattle.std.specs.Prelude.{ℕ, ◌^◌, ◌<◌, ◌≡◌, List, ◌++◌, length}
use Rattle.defs.specs.Answer.{when_done}
use Rattle.defs.specs.Choice.{when}
use Rattle.defs.specs.Wrapping.{wadd}
use Rattle.txbuf.specs.Record.{Wide}
use Rattle.txbuf.specs.declared.record.TxBuf.{TxBuf}
use Rattle.rules.specs.Send.{SendIn, send_answer, send_plan}
use Rattle.rules.specs.Notify.{NotifyIn, notify_answer, due, flushed}
use Rattle.rules.specs.declared.record.Settings.{Settings}
use Rattle.rules.specs.declared.record.VsockConnection.{VsockConnection}

-- the share of a record that the account of bytes rests on
pub record Account : Type 0 where
  pub settings : Settings
  pub ring : TxBuf
  pub fwd_cnt : ℕ

unfoldable pub account : VsockConnection → Account
account c = record { settings = c.settings; ring = c.tx_buf; fwd_cnt = c.fwd_cnt }

-- the numbers of it are 32 bits wide, as the record's types say
pub record Numbers (c : VsockConnection) : Type 0 where
  pub ring : Wide c.tx_buf
  pub fwd_cnt : c.fwd_cnt < 2 ^ 32

-- how many bytes the stream took in a call
unfoldable pub send_taken : SendIn → ℕ
send_taken i = when_done (send_answer i) (send_plan i).written 0

unfoldable pub notify_taken : NotifyIn → ℕ
notify_taken i = when_done (notify_answer i) (when (due i) (flushed i).count 0) 0

-- taken ++ held after = held before ++ accepted; fwd_cnt counts what was taken; settings stay, and so does the numbers' width
pub record Moved (before after : VsockConnection) (held_before held_after taken accepted : List ℕ) : Type 0 where
  pub bytes : taken ++ held_after ≡ held_before ++ accepted
  pub counted : after.fwd_cnt ≡ wadd before.fwd_cnt (length taken)
  pub settings : after.settings ≡ before.settings
  pub numbers : Numbers after
