-- A message is within the allowance of its own word: nothing is missing and nothing wrong.
use Rattle.std.proofs.Common.{◌≡◌, ℕ, zero, suc, ◌≤◌, List, Some, refl, ◌∙◌, arith}
use Rattle.std.proofs.lemmas.Int.{ints}
use Rattle.plan.specs.Accounts.{Account, Within, charge, missing, over_positions, wrong}
use Rattle.plan.specs.Schemes.{IsMessage, IsScheme, Scheme, message_length, positions, residue, word_length}
use Rattle.plan.proofs.Sizes.{start_most}
use Rattle.plan.proofs.Tallies.{over_same, own_charge}

over_none : (n : ℕ) → over_positions (λ _. 0) n ≡ 0
over_none zero = refl
over_none (suc n) = omega (arith, over_none n)

pub own_word_within : (s : Scheme) → IsScheme s → (message : List ℕ) → IsMessage s message → Within s (λ i. Some (residue s message i)) message
own_word_within s h message is =
    let account : Account = λ i. Some (residue s message i) in
    let none_missing : missing s account ≡ 0 = over_none (positions s) in
    let none_wrong : wrong s account message ≡ 0 =
    over_same (λ i. charge s message i (account i)) (λ _. 0) (positions s) (λ i _. own_charge s message i) ∙ over_none (positions s) in
    let room : message_length s ≤ word_length s = start_most s s.carriers in
    record { is_message = is; margin_enough = omega (arith, ints) }
