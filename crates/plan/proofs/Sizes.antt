-- The sizes of a scheme: what `extent` says of a polynomial, where positions begin, and how a word is made of its residues.
use Rattle.std.proofs.Common.{◌≡◌, ℕ, zero, suc, ◌+◌, ◌<◌, ◌≤◌, ◌⊎◌, List, [], ◌∷◌, ◌++◌, map, length, get_or, take, drop, sym, refl, ap, ◌∙◌, inl, inr, add-one, arith}
use native.Mathlib.Decide.{dec_lt}
use Rattle.std.specs.List.{range_with_len}
use Rattle.std.proofs.lemmas.List.FromFn.{map-range_with_len_more}
use Rattle.std.proofs.lemmas.List.{append-nil, append_assoc, length-append, take_all, take_at, drop_at, take-take, take_more, take-append-drop}
use Rattle.std.proofs.lemmas.Bool.Decides.{nat_tests}
use Rattle.algebra.specs.Field.{Arithmetic, FieldLaws}
use Rattle.algebra.specs.Polynomial.{coefficients, Below, HasDegree, IsPolynomial}
use Rattle.algebra.proofs.Coefficients.{degree_less, degree_one_only, list_polynomial}
use Rattle.algebra.proofs.Remainders.{remainder_long}
use Rattle.plan.specs.Schemes.{Scheme, extent, degree_of, total_degree, joined, positions, modulus, degree, start, word_length, residue, word_to, word, IsModulus}
use Rattle.plan.specs.Accounts.{over_positions}

-- The extent of a list is 0 where the polynomial is, and else one more than its degree.
abbrev pub Extent : List ℕ → Type 0
Extent codes = ((extent codes ≡ 0) × Below 0 (coefficients codes)) ⊎ ((d : ℕ) × (extent codes ≡ suc d) × HasDegree d (coefficients codes))

extent_none : (c : ℕ) (codes : List ℕ) → extent codes ≡ 0 → c ≡ 0 → extent (c ∷ codes) ≡ 0
extent_none c codes e z = grind (arith, nat_tests)

extent_one : (c : ℕ) (codes : List ℕ) → extent codes ≡ 0 → 0 < c → extent (c ∷ codes) ≡ 1
extent_one c codes e z = grind (arith, nat_tests)

extent_more : (c d : ℕ) (codes : List ℕ) → extent codes ≡ suc d → extent (c ∷ codes) ≡ suc (suc d)
extent_more c d codes e = grind (arith, nat_tests)

below_cons : (d c : ℕ) (codes : List ℕ) → Below d (coefficients codes) → Below (suc d) (coefficients (c ∷ codes))
below_cons d c codes h zero l = absurd (omega arith)
below_cons d c codes h (suc i) l = h i (omega arith)

nought_cons : (c : ℕ) (codes : List ℕ) → c ≡ 0 → Below 0 (coefficients codes) → Below 0 (coefficients (c ∷ codes))
nought_cons c codes e h zero l = e
nought_cons c codes e h (suc i) l = h i (omega arith)

pub extent_is : (codes : List ℕ) → Extent codes
extent_is [] = inl (refl, λ i l. refl)
extent_is (c ∷ codes) =
    elim (extent_is codes) [
      | inl h ↦
          elim (dec_lt 0 c) [
            | yes l ↦ inr (0, extent_one c codes h.0 l, record { leading = l; above = below_cons 0 c codes h.1 })
            | no l ↦ inl (extent_none c codes h.0 (omega arith), nought_cons c codes (omega arith) h.1)
          ]
      | inr h ↦
          inr (suc h.0, extent_more c h.0 codes h.1, record { leading = h.2.leading; above = below_cons (suc h.0) c codes h.2.above })
    ]

pub extent_of_nought : (codes : List ℕ) → Below 0 (coefficients codes) → extent codes ≡ 0
extent_of_nought codes z =
    elim (extent_is codes) [ inl h ↦ h.0 | inr h ↦ absurd (omega (arith, degree_less h.0 0 (coefficients codes) h.2 z)) ]

pub nought_of_extent : (codes : List ℕ) → extent codes ≡ 0 → Below 0 (coefficients codes)
nought_of_extent codes z = elim (extent_is codes) [ inl h ↦ h.1 | inr h ↦ absurd (omega (arith, h.1)) ]

pub extent_of_degree : (d : ℕ) (codes : List ℕ) → HasDegree d (coefficients codes) → extent codes ≡ suc d
extent_of_degree d codes g =
    elim (extent_is codes) [
      | inl h ↦ absurd (omega (arith, degree_less d 0 (coefficients codes) g h.1))
      | inr h ↦ h.1 ∙ ap suc (degree_one_only h.0 d (coefficients codes) h.2 g)
    ]

pub degree_of_extent : (d : ℕ) (codes : List ℕ) → extent codes ≡ suc d → HasDegree d (coefficients codes)
degree_of_extent d codes e =
    elim (extent_is codes) [
      | inl h ↦ absurd (omega (arith, h.0))
      | inr h ↦ let same : h.0 ≡ d = omega (arith, h.1) in rw same at h.2
    ]

pub degree_of_degree : (d : ℕ) (codes : List ℕ) → HasDegree d (coefficients codes) → degree_of codes ≡ d
degree_of_degree d codes g = omega (arith, extent_of_degree d codes g)

pub extent_length : (codes : List ℕ) → extent codes ≤ length codes
extent_length [] = omega arith
extent_length (c ∷ codes) = let before = extent_length codes in grind (arith, nat_tests)

-- A lawful modulus is a polynomial of its degree.
pub modulus_degree : (f : Arithmetic) (m : List ℕ) → IsModulus f m → HasDegree (degree_of m) (coefficients m)
modulus_degree f m h =
    elim (extent_is m) [
      | inl u ↦ absurd (omega (arith, u.1 (degree_of m) (omega arith), h.leading))
      | inr u ↦ let same : u.0 ≡ degree_of m = omega (arith, u.1) in rw same at u.2
    ]

pub modulus_polynomial : (f : Arithmetic) → FieldLaws f → (m : List ℕ) → IsModulus f m → IsPolynomial f (coefficients m)
modulus_polynomial f L m h = list_polynomial f L m h.codes

-- Degrees of some moduli after others.
pub total_degree_append : (ms ns : List (List ℕ)) → total_degree (ms ++ ns) ≡ total_degree ms + total_degree ns
total_degree_append [] ns = omega arith
total_degree_append (m ∷ ms) ns = let after = total_degree_append ms ns in omega arith

pub total_degree_take : (i : ℕ) (ms : List (List ℕ)) → total_degree (take i ms) ≤ total_degree ms
total_degree_take i ms =
    let parts = total_degree_append (take i ms) (drop i ms) in
    let whole = ap total_degree (take-append-drop i ms) in
    omega arith

pub total_degree_next : (ms : List (List ℕ)) (i : ℕ) → i < length ms → total_degree (take (i + 1) ms) ≡ total_degree (take i ms) + degree_of (get_or ms i [])
total_degree_next ms i l =
    let here = ap total_degree (take_more ms i [] l) in
    let parts = total_degree_append (take i ms) (get_or ms i [] ∷ []) in
    omega arith

-- Lists joined after others.
pub joined_append : (rs ts : List (List ℕ)) → joined (rs ++ ts) ≡ joined rs ++ joined ts
joined_append [] ts = refl
joined_append (r ∷ rs) ts = ap (λ (x : List ℕ). r ++ x) (joined_append rs ts) ∙ sym (append_assoc r (joined rs) (joined ts))

module _ (s : Scheme) where
  -- Where positions begin.
  pub start_none : start s 0 ≡ 0
  start_none = refl

  pub start_next : (i : ℕ) → i < positions s → start s (i + 1) ≡ start s i + degree s i
  start_next i l = total_degree_next s.moduli i l

  pub start_past : (i : ℕ) → positions s ≤ i → start s i ≡ word_length s
  start_past i l = ap total_degree (take_all i s.moduli l)

  pub start_all : start s (positions s) ≡ word_length s
  start_all = start_past (positions s) (omega arith)

  pub start_monotone : (i j : ℕ) → i ≤ j → start s i ≤ start s j
  start_monotone i j l =
      let same = ap total_degree (take-take i j s.moduli l) in
      omega (arith, total_degree_take i (take j s.moduli))

  pub start_most : (i : ℕ) → start s i ≤ word_length s
  start_most i = total_degree_take i s.moduli

  -- A position ends within the word.
  pub start_room : (i : ℕ) → i < positions s → start s i + degree s i ≤ word_length s
  start_room i l = omega (arith, start_next i l, start_most (i + 1))

  pub start_sum : (i : ℕ) → i ≤ positions s → start s i ≡ over_positions (degree s) i
  start_sum zero l = refl
  start_sum (suc i) l =
      let before = start_sum i (omega arith) in
      let here = start_next i (omega arith) in
      let same : start s (i + 1) ≡ start s (suc i) = ap (start s) (add-one i) in
      omega arith

  -- What a position holds is as long as its degree, and the positions before it are as long as where it begins.
  pub residue_length : (message : List ℕ) (i : ℕ) → length (residue s message i) ≡ degree s i
  residue_length message i = remainder_long s.arithmetic (degree s i) (coefficients (modulus s i)) message

  pub word_to_next : (message : List ℕ) (n : ℕ) → word_to s message (n + 1) ≡ word_to s message n ++ residue s message n
  word_to_next message n =
      ap joined (map-range_with_len_more (residue s message) 0 n n (omega arith))
      ∙ joined_append (map (residue s message) (range_with_len 0 n)) (residue s message n ∷ [])
      ∙ ap (λ (x : List ℕ). word_to s message n ++ x) (append-nil (residue s message n))

  pub word_to_length : (message : List ℕ) (n : ℕ) → n ≤ positions s → length (word_to s message n) ≡ start s n
  word_to_length message zero l = refl
  word_to_length message (suc n) l =
      let before = word_to_length message n (omega arith) in
      let more = ap length (word_to_next message n) in
      let parts = length-append (word_to s message n) (residue s message n) in
      let same : word_to s message (n + 1) ≡ word_to s message (suc n) = ap (word_to s message) (add-one n) in
      let here : start s (n + 1) ≡ start s (suc n) = ap (start s) (add-one n) in
      omega (arith, residue_length message n, start_next n (omega arith), ap length same)

  pub word_is_long : (message : List ℕ) → length (word s message) ≡ word_length s
  word_is_long message = word_to_length message (positions s) (omega arith) ∙ start_all

  -- The first n positions begin with the first i.
  word_to_begins : (message : List ℕ) (i n : ℕ) → i ≤ n → (rest : List ℕ) × (word_to s message n ≡ word_to s message i ++ rest)
  word_to_begins message i zero l =
      let e : i ≡ 0 = omega arith in
      ([], sym (append-nil (word_to s message i) ∙ ap (word_to s message) e))
  word_to_begins message i (suc n) l =
      elim (dec_lt n i) [
        | yes g ↦ let e : i ≡ suc n = omega arith in ([], sym (append-nil (word_to s message i) ∙ ap (word_to s message) e))
        | no g ↦
            let before = word_to_begins message i n (omega arith) in (
              before.0 ++ residue s message n,
              sym (ap (word_to s message) (add-one n)) ∙ word_to_next message n
                  ∙ ap (λ (x : List ℕ). x ++ residue s message n) before.1
                  ∙ append_assoc (word_to s message i) before.0 (residue s message n),
            )
      ]

  -- The part of the word from where a position begins, as long as its degree, is its residue.
  pub word_part : (message : List ℕ) (i : ℕ) → i < positions s
      → take (degree s i) (drop (start s i) (word s message)) ≡ residue s message i
  word_part message i l =
      let all = word_to_begins message (i + 1) (positions s) (omega arith) in
      let split : word s message ≡ word_to s message i ++ (residue s message i ++ all.0) =
      all.1 ∙ ap (λ (x : List ℕ). x ++ all.0) (word_to_next message i)
      ∙ append_assoc (word_to s message i) (residue s message i) all.0 in
      ap (λ (x : List ℕ). take (degree s i) (drop (start s i) x)) split
      ∙ ap (take (degree s i)) (drop_at (word_to s message i) (residue s message i ++ all.0) (start s i) (word_to_length message i (omega arith)))
      ∙ take_at (residue s message i) all.0 (degree s i) (residue_length message i)
