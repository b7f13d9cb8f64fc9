-- What has arrived under the plans, and what is read of it: margins, messages within the allowance, refusals and near
-- misses.
use Rattle.std.specs.Prelude.{◌≡◌, ℕ, ◌+◌, ◌-◌, List, [], ◌∷◌, ℤ, pos, negsuc, Some, None, Ok, Err, Option, slice_index_or}
use Rattle.plan.specs.Accounts.{Account, Within, margin, missing}
use Rattle.plan.specs.Schemes.{Scheme, message_length, word_length}
use Rattle.reader.specs.declared.answers.ReaderFault.{ReaderFault}
use Rattle.reader.specs.declared.answers.ReaderFault.TheVariants.{NoMessage, TooMuchMissing}
use Rattle.rack.specs.Told.{ReadAs}
use Rattle.rack.specs.declared.call.Answer.TheVariants.{Message}
use Rattle.rack.specs.declared.faults.RackFault.TheVariants.{Slot}
use Rattle.rack.specs.declared.faults.SlotFault.TheVariants.{Unread}
use Rattle.examples.specs.Plans.{P, Q, T}

-- The account of what has arrived at each position, in order.
abbrev pub arrived : List (Option (List ℕ)) → Account
arrived residues i = slice_index_or residues i None

-- Residues that arrived under P. Those of 1 + z are 1|0|1 1|1 1 0 and those of 0 are 0|0|0 0|0 0 0; – is a missing one.
abbrev pub last_missing : Account
last_missing = arrived (Some (1 ∷ []) ∷ Some (0 ∷ []) ∷ Some (1 ∷ 1 ∷ []) ∷ None ∷ [])

abbrev pub carriers_alone : Account
carriers_alone = arrived (Some (1 ∷ []) ∷ Some (0 ∷ []) ∷ None ∷ None ∷ [])

abbrev pub one_present : Account
one_present = arrived (None ∷ Some (0 ∷ []) ∷ None ∷ None ∷ [])

abbrev pub last_wrong : Account
last_wrong = arrived (Some (1 ∷ []) ∷ Some (0 ∷ []) ∷ Some (1 ∷ 1 ∷ []) ∷ Some (0 ∷ 0 ∷ 0 ∷ []) ∷ [])

abbrev pub first_wrong : Account
first_wrong = arrived (Some (1 ∷ []) ∷ Some (0 ∷ []) ∷ Some (0 ∷ 0 ∷ []) ∷ None ∷ [])

-- Residues that arrived under Q, where 1 + 2z has 1|3|5|7.
abbrev pub last_changed : Account
last_changed = arrived (Some (1 ∷ []) ∷ Some (3 ∷ []) ∷ Some (5 ∷ []) ∷ Some (9 ∷ []) ∷ [])

abbrev pub two_changed : Account
two_changed = arrived (Some (1 ∷ []) ∷ Some (3 ∷ []) ∷ Some (0 ∷ []) ∷ Some (0 ∷ []) ∷ [])

-- Residues that arrived under T, where each message stands at both positions.
abbrev pub in_conflict : Account
in_conflict = arrived (Some (0 ∷ 0 ∷ []) ∷ Some (0 ∷ 1 ∷ []) ∷ [])

-- What a reading of an account is answered, in any slot and whatever the buffer held: it is accepted with a message,
-- its margin and e; or refused for a cause, and the buffer stays as it was. By the rack's law there is one answer.
abbrev pub Reads : Scheme → Account → (message : List ℕ) → (margin : ℤ) → (wrong : ℕ) → Type 0
Reads s account message margin wrong =
    (slot : ℕ) (buffer : List ℕ)
    → ReadAs s account slot buffer message (Ok (Message (record { margin = margin; wrong = wrong })))

abbrev pub ReadRefused : Scheme → Account → ReaderFault → Type 0
ReadRefused s account cause =
    (slot : ℕ) (buffer : List ℕ) → ReadAs s account slot buffer buffer (Err (Slot slot (Unread cause)))

-- Margins, what lies within the allowance of an account, and what its reading is answered.
pub record ReadingExamples : Type 0 where
  -- P, 1|0|1 1|–: N - K - R is 7 - 2 - 3
  pub spare_margin : margin P last_missing (1 ∷ 1 ∷ []) ≡ pos 2
  pub spare_read : Reads P last_missing (1 ∷ 1 ∷ []) (pos 2) 0
  -- P, 1|0|–|–: the carriers alone still tell the message, with nothing to spare
  pub no_margin : margin P carriers_alone (1 ∷ 1 ∷ []) ≡ pos 0
  pub carriers_suffice : Within P carriers_alone (1 ∷ 1 ∷ [])
  pub carriers_read : Reads P carriers_alone (1 ∷ 1 ∷ []) (pos 0) 0
  -- P, –|0|–|–: R is 6, one more than N - K, so ground 18 with second place 1
  pub too_few : missing P one_present ≡ word_length P - message_length P + 1
  pub ground_eighteen : ReadRefused P one_present (TooMuchMissing 1)
  -- P, 1|0|1 1|0 0 0: 1 + z and 0 are equally far, and no message is near enough: ground 19
  pub margin_one : margin P last_wrong (1 ∷ 1 ∷ []) ≡ negsuc 0
  pub margin_other : margin P last_wrong (0 ∷ 0 ∷ []) ≡ negsuc 0
  pub none_near : (message : List ℕ) → ¬ (Within P last_wrong message)
  pub ground_nineteen : ReadRefused P last_wrong NoMessage
  -- P, 1|0|0 0|–: one position of degree 1 may be wrong beside the missing one
  pub margin_used : margin P first_wrong (0 ∷ 0 ∷ []) ≡ pos 0
  pub one_wrong : Within P first_wrong (0 ∷ 0 ∷ [])
  pub read_beside_wrong : Reads P first_wrong (0 ∷ 0 ∷ []) (pos 0) 1
  -- Q, 1|3|5|9: one of the four values may be wrong
  pub margin_in_bytes : margin Q last_changed (1 ∷ 2 ∷ []) ≡ pos 0
  pub within_in_bytes : Within Q last_changed (1 ∷ 2 ∷ [])
  pub read_in_bytes : Reads Q last_changed (1 ∷ 2 ∷ []) (pos 0) 1
  -- Q, 1|3|0|0: two of the four are too many; 1 + 2z and 0 have two each
  pub margin_of_first : margin Q two_changed (1 ∷ 2 ∷ []) ≡ negsuc 1
  pub margin_of_last : margin Q two_changed (0 ∷ 0 ∷ []) ≡ negsuc 1
  pub none_in_bytes : (message : List ℕ) → ¬ (Within Q two_changed message)
  pub refused_in_bytes : ReadRefused Q two_changed NoMessage
  -- T, 0 0|0 1: the positions disagree, and neither is believed
  pub margin_in_conflict : margin T in_conflict (0 ∷ 0 ∷ []) ≡ negsuc 1
  pub none_in_conflict : (message : List ℕ) → ¬ (Within T in_conflict message)
  pub refused_in_conflict : ReadRefused T in_conflict NoMessage
