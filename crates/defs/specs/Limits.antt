-- Every limit of document 01 ("The numbers of a connection"), once, and the tests that keep numbers within them. Assumes nothing.
use Rattle.std.specs.Prelude.{ℕ, ◌%◌, ◌^◌, Bool, ◌&&◌, ◌==◌, nat_le}

-- R, the ring's size: a power of two from 16 to 1,048,576
abbrev pub min_ring : ℕ
min_ring = 16

abbrev pub max_ring_log : ℕ
max_ring_log = 20

abbrev pub max_ring : ℕ
max_ring = 2 ^ max_ring_log

-- T, the credit update threshold: from this to R
abbrev pub min_threshold : ℕ
min_threshold = 1

-- the request and the shutdown timeout, in milliseconds
abbrev pub min_timeout : ℕ
min_timeout = 1

abbrev pub max_timeout : ℕ
max_timeout = 60000

-- Q, the limit of the RX queue
abbrev pub min_rxq : ℕ
min_rxq = 1

abbrev pub max_rxq : ℕ
max_rxq = 512

-- K, the limit of the kill queue
abbrev pub min_killq : ℕ
min_killq = 1

abbrev pub max_killq : ℕ
max_killq = 128

-- the slots of a connection table
abbrev pub min_slots : ℕ
min_slots = 1

abbrev pub max_slots : ℕ
max_slots = 1024

-- the bytes of a packet's buffer, of a push or of a raw send
abbrev pub max_packet : ℕ
max_packet = 65536

-- the clock, in milliseconds
abbrev pub max_clock : ℕ
max_clock = 2 ^ 62

-- the bytes of a packet header
abbrev pub header_size : ℕ
header_size = 44

abbrev within : ℕ → ℕ → ℕ → Bool
within low n high = nat_le low n && nat_le n high

-- a power of two from the smallest ring to the largest, as a quick test (its meaning: `RingSizes` of Promises)
unfoldable pub is_ring_size : ℕ → Bool
is_ring_size size = nat_le min_ring size && max_ring % size == 0

unfoldable pub is_threshold : ℕ → ℕ → Bool
is_threshold threshold size = within min_threshold threshold size

unfoldable pub is_timeout : ℕ → Bool
is_timeout ms = within min_timeout ms max_timeout

unfoldable pub is_rxq_limit : ℕ → Bool
is_rxq_limit limit = within min_rxq limit max_rxq

unfoldable pub is_killq_limit : ℕ → Bool
is_killq_limit limit = within min_killq limit max_killq

unfoldable pub is_slot_count : ℕ → Bool
is_slot_count slots = within min_slots slots max_slots

unfoldable pub is_clock : ℕ → Bool
is_clock ms = nat_le ms max_clock

unfoldable pub is_packet_length : ℕ → Bool
is_packet_length bytes = nat_le bytes max_packet

unfoldable pub is_header_length : ℕ → Bool
is_header_length bytes = bytes == header_size
