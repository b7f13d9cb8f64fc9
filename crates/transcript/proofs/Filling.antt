-- A buffer that is filled by one take after the other, and a text that is put part by part.
use Rattle.std.proofs.Common.{◌≡◌, ℕ, ◌+◌, ◌-◌, ◌≤◌, List, ◌++◌, Option, arith, length, take, drop, slice_range, sym, ap, ◌∙◌, subst, le_refl, drop_at, length-take-le}
use Rattle.std.proofs.lemmas.Slice.{take-put_mid_below}
use Rattle.std.specs.Io.KnownBytes.{Appends, Consumes}
use Rattle.std.proofs.KnownBytes.{Appends-trans, Consumes-trans}
use borrow.Rule.Slice.PartMut.{put_mid, post_of}
use lib.Seq.{take-add, take-append-le}
use Rattle.std.proofs.Math.Seq.{take-length}
use Rattle.std.proofs.lemmas.List.{length-drop}

take_split : (a b : ℕ) (old new : List ℕ) → a ≤ b → take a new ≡ take a old → take a old ++ slice_range new a b ≡ take b new
take_split a b old new h front =
    let same : a + (b - a) ≡ b = omega arith in
    ap (λ l. l ++ slice_range new a b) (sym front) ∙ sym (take-add a (b - a) new) ∙ ap (λ n. take n new) same

slice_range-put_mid : (a k n : ℕ) (xs ys : List ℕ) → a ≤ length xs → n ≤ length ys → slice_range (put_mid a k xs ys) a (a + n) ≡ take n ys
slice_range-put_mid a k n xs ys within fits =
    let same : (a + n) - a ≡ n = omega arith in
    let after = post_of a k xs in
    ap (take ((a + n) - a)) (drop_at (take a xs) (ys ++ after) a (length-take-le a xs within)) ∙ ap (λ m. take m (ys ++ after)) same ∙ take-append-le n ys after fits

module _ (a b c : Option (List ℕ)) (at : ℕ) (old new : List ℕ) (within : at ≤ length old) (so_far : Consumes a b (take at old)) where
  abbrev filled : List ℕ
  filled = put_mid at (length old - at) old new

  -- n bytes are taken.
  pub take_more : (n : ℕ) → n ≤ length new → Consumes b c (take n new) → Consumes a c (take (at + n) filled)
  take_more n fits more =
      let part = slice_range-put_mid at (length old - at) n old new within fits in
      let joined = take_split at (at + n) old filled (omega arith) (take-put_mid_below _ _ _ _ _ (le_refl _) within) in
      subst (Consumes a c) (ap (λ l. take at old ++ l) (sym part) ∙ joined) (Consumes-trans a b c _ _ so_far more)

-- n bytes more of a text are put.
module _ (text : List ℕ) (at n : ℕ) (within : at ≤ length text) where
  rest_is : take (length text - at) (drop at text) ≡ drop at text
  rest_is = ap (λ k. take k (drop at text)) (sym (length-drop at text)) ∙ take-length (drop at text)

  pub put_more : (a b c : Option (List ℕ)) → Appends a b (take at text) → Appends b c (take n (take (length text - at) (drop at text)))
      → Appends a c (take (at + n) text)
  put_more a b c so_far more =
      subst (Appends a c) (ap (λ rest. take at text ++ take n rest) rest_is ∙ sym (take-add at n text)) (Appends-trans a b c _ _ so_far more)

  pub put_within : n ≤ length (take (length text - at) (drop at text)) → at + n ≤ length text
  put_within h = omega (arith, within, length-drop at text, ap length rest_is, h)
