-- The promises of specs/Promises, each by its law. Assumes nothing.
use Rattle.conn_map.specs.Promises.{SoundMeans, GatheredInOrder, EdgesHold, NumberIsPorts}
use Rattle.conn_map.proofs.Edges as edges
use Rattle.conn_map.proofs.OrderLaws as orders
use Rattle.conn_map.proofs.TableLaws as tables

pub sound_means : SoundMeans
sound_means = tables.sound_means

pub gathered_in_order : GatheredInOrder
gathered_in_order = orders.gathered_in_order

pub edges_hold : EdgesHold
edges_hold = edges.edges_hold

pub number_is_ports : NumberIsPorts
number_is_ports = tables.number_is_ports
