-- What a resource means: a capacity C and a standing T. Assumes nothing.
use Rattle.std.specs.Prelude.{ℕ, cond, nat_lt}

-- the number of the refusal of a resource with a capacity that is to stand at n: 11 above the capacity, else 0
abbrev pub stand_refusal : ℕ → ℕ → ℕ
stand_refusal capacity n = cond (nat_lt capacity n) 11 0

-- the standing after that: n, or what it was where n is refused
abbrev pub stood_at : ℕ → ℕ → ℕ → ℕ
stood_at capacity standing n = cond (nat_lt capacity n) standing n
