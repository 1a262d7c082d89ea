-- The exchange of two channels: document 02, Ask 11, "conditions are read with the events of channel 0 and that channel exchanged".
use Rattle.std.specs.Prelude.{cond, ℕ, suc, ◌+◌, ◌*◌, ◌/◌, ◌%◌, ◌^◌, eqb}
use Rattle.bits.specs.Bits.{has, set_of}
use Rattle.condition.specs.Condition.{Condition, leaf, empty, join, either, star}

-- channel 0 and channel c exchanged: what becomes of channel k
unfoldable pub swap_channel : ℕ → ℕ → ℕ
swap_channel c k = cond (eqb k 0) c (cond (eqb k c) 0 k)

-- the same of an event: "channel c of 0 to 3 has the sixteen from 16 times c"
unfoldable pub swap : ℕ → ℕ → ℕ
swap c e = 16 * swap_channel c (e / 16) + e % 16

-- the same of a set: it has the event e where the set s has the event `swap c e`; what is above channel c stays
unfoldable pub exchange_set : ℕ → ℕ → ℕ
exchange_set c s = let n = 16 * suc c in s / 2 ^ n * 2 ^ n + set_of n (λ e. has s (swap c e))

-- the same of a condition: of each of its leaves
unfoldable pub exchange : ℕ → Condition → Condition
unfolding has set_of swap_channel swap exchange_set
exchange c (leaf s) = leaf (exchange_set c s)
exchange c empty = empty
exchange c (join a b) = join (exchange c a) (exchange c b)
exchange c (either a b) = either (exchange c a) (exchange c b)
exchange c (star a) = star (exchange c a)
