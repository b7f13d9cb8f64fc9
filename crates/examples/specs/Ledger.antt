-- A lesson on a rack: what the ledger holds as its calls go on, and the grounds in their order.
use Rattle.std.specs.Prelude.{◌≡◌, ℕ, List, [], ◌∷◌, take, pos, Some, None, Ok, Err}
use Rattle.plan.specs.Accounts.{Within}
use Rattle.rack.specs.Ledger.{Ledger, Request, account_in, after, blank, closed, closes, judge, opens, puts, reads}
use Rattle.reader.specs.declared.answers.ReaderFault.TheVariants.{NoMessage}
use Rattle.rack.specs.Told.{Told}
use Rattle.rack.specs.declared.call.Answer.TheVariants.{Message}
use Rattle.rack.specs.declared.faults.RackFault.TheVariants.{NoChannel, Slot}
use Rattle.rack.specs.declared.faults.SlotFault.TheVariants.{Closed, NoCode, NoPosition, NoSlot, OpenAlready, OtherChannel, Unread, WrongLength}
use Rattle.examples.specs.Plans.{P}

-- A lesson on a rack of four slots under P: channel A, number 0, opens slot 1 and puts the residues of 1 + z
-- at the carrying positions, reads, puts a wrong residue at the third position, reads again; channel B tries
-- to put there; A closes the slot.
abbrev pub lesson : List Request
lesson =
    opens 0 1 ∷ puts 0 1 0 (1 ∷ []) ∷ puts 0 1 1 (0 ∷ []) ∷ reads 0 1 (0 ∷ 0 ∷ []) ∷ puts 0 1 2 (0 ∷ 1 ∷ []) ∷ reads 0 1 (0 ∷ 0 ∷ [])
    ∷ puts 1 1 2 (1 ∷ 1 ∷ []) ∷ closes 0 1 ∷ []

-- The ledger after the first n calls of the lesson.
abbrev pub lesson_ledger : ℕ → Ledger
lesson_ledger n = after P 4 blank (take n lesson)

-- The ledger of the lesson, and the grounds in their order.
pub record LedgerExamples : Type 0 where
  -- after three calls the slot is A's, with 1|0|–|–
  pub gathered_first : account_in (lesson_ledger 3 1) 0 ≡ Some (1 ∷ [])
  pub gathered_second : account_in (lesson_ledger 3 1) 1 ≡ Some (0 ∷ [])
  pub gathered_none : account_in (lesson_ledger 3 1) 2 ≡ None
  -- the first read is a reading, and so is the second
  pub first_reads : judge P 4 (lesson_ledger 3) (reads 0 1 (0 ∷ 0 ∷ [])) ≡ None
  pub second_reads : judge P 4 (lesson_ledger 5) (reads 0 1 (0 ∷ 0 ∷ [])) ≡ None
  -- at the first 1 + z lies within the account; at the second, with the wrong residue, no message does
  pub first_message : Within P (account_in (lesson_ledger 3 1)) (1 ∷ 1 ∷ [])
  pub second_none : (message : List ℕ) → ¬ (Within P (account_in (lesson_ledger 5 1)) message)
  -- so the first is answered 1 + z, with margin 0 and e 0, and the second is refused on ground 19
  pub first_told :
      Told P 4 (lesson_ledger 3) (reads 0 1 (0 ∷ 0 ∷ [])) (Ok (Message (record { margin = pos 0; wrong = 0 })))
      (reads 0 1 (1 ∷ 1 ∷ []))
  pub second_told :
      Told P 4 (lesson_ledger 5) (reads 0 1 (0 ∷ 0 ∷ [])) (Err (Slot 1 (Unread NoMessage))) (reads 0 1 (0 ∷ 0 ∷ []))
  -- B's put is refused on ground 14, and changes nothing
  pub intrusion : judge P 4 (lesson_ledger 6) (puts 1 1 2 (1 ∷ 1 ∷ [])) ≡ Some (Slot 1 OtherChannel)
  pub intrusion_told :
      Told P 4 (lesson_ledger 6) (puts 1 1 2 (1 ∷ 1 ∷ [])) (Err (Slot 1 OtherChannel)) (puts 1 1 2 (1 ∷ 1 ∷ []))
  pub untouched : account_in (lesson_ledger 7 1) 2 ≡ Some (0 ∷ 1 ∷ [])
  pub shut : lesson_ledger 8 1 ≡ closed
  -- of several grounds the first counts: a put with everything wrong, mended step by step
  pub ten : judge P 4 (lesson_ledger 3) (puts 2 9 9 (5 ∷ [])) ≡ Some NoChannel
  pub eleven : judge P 4 (lesson_ledger 3) (puts 1 9 9 (5 ∷ [])) ≡ Some (Slot 9 NoSlot)
  pub twelve : judge P 4 (lesson_ledger 3) (puts 1 0 9 (5 ∷ [])) ≡ Some (Slot 0 Closed)
  pub thirteen : judge P 4 (lesson_ledger 3) (opens 1 1) ≡ Some (Slot 1 OpenAlready)
  pub fourteen : judge P 4 (lesson_ledger 3) (puts 1 1 9 (5 ∷ [])) ≡ Some (Slot 1 OtherChannel)
  pub fifteen : judge P 4 (lesson_ledger 3) (puts 0 1 9 (5 ∷ [])) ≡ Some (Slot 1 (NoPosition 9))
  pub sixteen : judge P 4 (lesson_ledger 3) (puts 0 1 2 (5 ∷ [])) ≡ Some (Slot 1 (WrongLength 2))
  pub seventeen : judge P 4 (lesson_ledger 3) (puts 0 1 2 (1 ∷ 2 ∷ [])) ≡ Some (Slot 1 (NoCode 1))
  -- a read's buffer may hold anything
  pub any_buffer : judge P 4 (lesson_ledger 3) (reads 0 1 (5 ∷ 9 ∷ [])) ≡ None
