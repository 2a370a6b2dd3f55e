-- The readings of 01 that this crate decides (R = 16, T = 4): e's threshold rule, and h. Assumes nothing.
use Rattle.std.specs.Prelude.{true, false, List, [], ◌∷◌}
use Rattle.defs.specs.Reading.{Reading, ◌reads◌}
use Rattle.defs.specs.Credit.{peer_avail_credit, peer_needs_credit_update}

-- e's rule: count minus told 12, 13 and 17 (the calls that apply it read e whole)
unfoldable pub reading_e : List Reading
reading_e =
    (peer_needs_credit_update 16 4 12 0 reads false)
    ∷ (peer_needs_credit_update 16 4 13 0 reads true)
    ∷ (peer_needs_credit_update 16 4 17 0 reads false)
    ∷ []

-- h: alloc 10, sent 14, peer fwd 2
unfoldable pub reading_h : List Reading
reading_h = (peer_avail_credit 10 14 2 reads 0) ∷ []
