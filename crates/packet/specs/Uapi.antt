-- The numbers of virtio 1.2, section 5.10.6: operations, socket types, the flags of a SHUTDOWN. Assumes nothing.
use Rattle.std.specs.Prelude.{ℕ}

abbrev pub op_request : ℕ
op_request = 1

abbrev pub op_response : ℕ
op_response = 2

abbrev pub op_rst : ℕ
op_rst = 3

abbrev pub op_shutdown : ℕ
op_shutdown = 4

abbrev pub op_rw : ℕ
op_rw = 5

abbrev pub op_credit_update : ℕ
op_credit_update = 6

abbrev pub op_credit_request : ℕ
op_credit_request = 7

abbrev pub type_stream : ℕ
type_stream = 1

-- the sender of the packet will receive no more
abbrev pub flag_shutdown_rcv : ℕ
flag_shutdown_rcv = 1

-- it will send no more
abbrev pub flag_shutdown_send : ℕ
flag_shutdown_send = 2
