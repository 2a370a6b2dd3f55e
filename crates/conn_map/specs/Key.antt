-- What names a connection (01, "The two queues"): a local and a peer port. Assumes nothing.
use Rattle.std.specs.Prelude.{ℕ, ◌/◌, ◌%◌, ◌^◌}
use Rattle.conn_map.specs.declared.key.ConnMapKey.{ConnMapKey}

-- both ports of a slot are one number: the local port times 2^32, and the peer port
unfoldable pub key_of : ℕ → ConnMapKey
key_of ports = record { local_port = ports / 2 ^ 32; peer_port = ports % 2 ^ 32 }
