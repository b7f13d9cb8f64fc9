use Rattle.std.proofs.Common.{ℕ, List, sym, subst, arith}
use Rattle.plan.specs.Held.{scheme}
use Rattle.plan.specs.Refusals.{HoldsRemainders}
use Rattle.plan.specs.Schemes.{IsMessage}
use Rattle.plan.proofs.Words.{encoded_remainders}
use Rattle.plan.proofs.plans.Plan.encode.Goals as goal

pub returns : goal.returns
returns g c =
    let s = scheme c.args.self.now in
    let message = c.args.message.now in
    let is : IsMessage s message = record { long = omega (arith, c.if-message-message_length.false, c.message_length.ensures); codes = c.in_default.ensures } in
    record {
      answer = (is, omega (arith, c.if-buffer-word_length.false, c.word_length.ensures), c.fill.ensures);
      remainders = λ _.
          subst (λ (codes : List ℕ). HoldsRemainders s message codes) (sym c.fill.ensures)
          (encoded_remainders s g.met.F.Field.lawful c.args.self.now.lawful message is.codes);
    }
