-- What the laws of a field give at once.
use Rattle.std.proofs.Common.{◌≡◌, ℕ, ◌<◌, cond, ltb, sym, refl, ap, ◌∙◌, ⊎_elim, arith}
use Rattle.std.proofs.lemmas.Bool.{cases_lt, cond_above, cond_below}
use Rattle.algebra.specs.Field.{Arithmetic, FieldLaws}

module _ (f : Arithmetic) (l : FieldLaws f) where
  -- Taking a code out and putting it back.
  pub put_back : (a b : ℕ) → a < f.order → b < f.order → f.sum a (f.sum (f.negative a) b) ≡ b
  put_back a b ha hb =
      sym (l.sum_assoc a (f.negative a) b ha (l.negative_below a) hb)
      ∙ ap (λ x. f.sum x b) (l.sum_negative a ha)
      ∙ l.sum_comm 0 b (omega (arith, l.order_least)) hb
      ∙ l.sum_zero b hb

  -- The same for any two numbers: what is no code counts as 0.
  pub put_back_any : (a b : ℕ) → f.sum a (f.sum (f.negative a) b) ≡ cond (ltb a f.order) (cond (ltb b f.order) b a) 0
  put_back_any a b =
      ⊎_elim
      (λ ha. ⊎_elim
      (λ hb. put_back a b ha hb ∙ cond_below b f.order b a hb ∙ cond_below a f.order (cond (ltb b f.order) b a) 0 ha)
      (λ hb.
      ap (f.sum a) (l.sum_outside_right (f.negative a) b hb)
      ∙ l.sum_zero a ha
      ∙ cond_above b f.order b a a hb refl
      ∙ cond_below a f.order (cond (ltb b f.order) b a) 0 ha)
      (cases_lt b f.order))
      (λ ha. cond_above a f.order _ 0 _ ha (l.sum_outside_left a (f.sum (f.negative a) b) ha))
      (cases_lt a f.order)

  -- A code has one inverse.
  pub inverse_unique : (a b : ℕ) → a < f.order → b < f.order → 0 < a → f.product a b ≡ 1 → b ≡ f.inverse a
  inverse_unique a b ha hb h e =
      let r = f.inverse a in
      let hr = l.inverse_below a in
      sym (l.product_one b hb)
      ∙ ap (f.product b) (sym (l.product_inverse a ha h))
      ∙ sym (l.product_assoc b a r hb ha hr)
      ∙ ap (λ x. f.product x r) (l.product_comm b a hb ha ∙ e)
      ∙ l.product_comm 1 r (omega (arith, l.order_least)) hr
      ∙ l.product_one r hr

  -- x = (c - b) · a⁻¹ solves a·x + b = c.
  pub solves : (a b c : ℕ) → 0 < a → a < f.order → b < f.order → c < f.order
      → f.sum (f.product a (f.product (f.sum c (f.negative b)) (f.inverse a))) b ≡ c
  solves a b c h ha hb hc =
      let d = f.sum c (f.negative b) in
      let hd = l.sum_below c (f.negative b) in
      let r = f.inverse a in
      let hr = l.inverse_below a in
      let one_below : 1 < f.order = omega (arith, l.order_least) in
      ap (λ x. f.sum x b)
      (ap (f.product a) (l.product_comm d r hd hr)
      ∙ sym (l.product_assoc a r d ha hr hd)
      ∙ ap (λ x. f.product x d) (l.product_inverse a ha h)
      ∙ l.product_comm 1 d one_below hd
      ∙ l.product_one d hd)
      ∙ l.sum_assoc c (f.negative b) b hc (l.negative_below b) hb
      ∙ ap (f.sum c) (l.sum_comm (f.negative b) b (l.negative_below b) hb ∙ l.sum_negative b hb)
      ∙ l.sum_zero c hc
