-- How tightly a call is tied down (01, section of that name). Assumes nothing.
use Rattle.std.specs.Prelude.{◌≡◌}

-- a contract speaks of lifetimes, of what the call is given, of what it gives back and of what it leaves behind its references;
-- it pins what is seen of the last two where any two outcomes that meet it, for the same call, are seen alike
abbrev pub Pinned : {L : Type 0} {In Out End : L → Type 0} → ((l : L) → In l → Out l → End l → Type 0) → (Seen : Type 0) → ((l : L) → Out l → End l → Seen) → Type 0
Pinned {L} {In} {Out} {End} Contract Seen seen =
    (l : L) (given : In l) (r s : Out l) (e f : End l) → Contract l given r e → Contract l given s f → seen l r e ≡ seen l s f
