-- The moduli of the examples, and the three plans P, Q and T that they make.
use Rattle.std.specs.Prelude.{ℕ, List, [], ◌∷◌}
use Rattle.algebra.specs.Arithmetics.{byte_arithmetic, modulo}
use Rattle.plan.specs.Schemes.{Scheme}

-- Moduli as they are handed in: nine codes, lowest power first.
abbrev pub z : List ℕ
z = 0 ∷ 1 ∷ 0 ∷ 0 ∷ 0 ∷ 0 ∷ 0 ∷ 0 ∷ 0 ∷ []

abbrev pub z+1 : List ℕ
z+1 = 1 ∷ 1 ∷ 0 ∷ 0 ∷ 0 ∷ 0 ∷ 0 ∷ 0 ∷ 0 ∷ []

abbrev pub z+2 : List ℕ
z+2 = 2 ∷ 1 ∷ 0 ∷ 0 ∷ 0 ∷ 0 ∷ 0 ∷ 0 ∷ 0 ∷ []

abbrev pub z+3 : List ℕ
z+3 = 3 ∷ 1 ∷ 0 ∷ 0 ∷ 0 ∷ 0 ∷ 0 ∷ 0 ∷ 0 ∷ []

abbrev pub z²+1 : List ℕ
z²+1 = 1 ∷ 0 ∷ 1 ∷ 0 ∷ 0 ∷ 0 ∷ 0 ∷ 0 ∷ 0 ∷ []

abbrev pub z²+z : List ℕ
z²+z = 0 ∷ 1 ∷ 1 ∷ 0 ∷ 0 ∷ 0 ∷ 0 ∷ 0 ∷ 0 ∷ []

abbrev pub z²+z+1 : List ℕ
z²+z+1 = 1 ∷ 1 ∷ 1 ∷ 0 ∷ 0 ∷ 0 ∷ 0 ∷ 0 ∷ 0 ∷ []

abbrev pub z³+z+1 : List ℕ
z³+z+1 = 1 ∷ 1 ∷ 0 ∷ 1 ∷ 0 ∷ 0 ∷ 0 ∷ 0 ∷ 0 ∷ []

-- Four positions of degrees 1, 1, 2 and 3 over bits, the first two of which carry.
abbrev pub P : Scheme
P = record { arithmetic = modulo 2; carriers = 2; moduli = z ∷ z+1 ∷ z²+z+1 ∷ z³+z+1 ∷ [] }

-- Four positions of degree 1 over bytes: the residue by z + c is the message's value at c.
abbrev pub Q : Scheme
Q = record { arithmetic = byte_arithmetic; carriers = 2; moduli = z ∷ z+1 ∷ z+2 ∷ z+3 ∷ [] }

-- Two positions of degree 2 over bits, the first of which carries.
abbrev pub T : Scheme
T = record { arithmetic = modulo 2; carriers = 1; moduli = z²+z+1 ∷ z²+z ∷ [] }
