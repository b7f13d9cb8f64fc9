-- The signs by their bytes.
use Rattle.std.specs.Prelude.{ℕ}
use Rattle.expression.specs.Bytes.{blank_byte, caret, left_bracket, line_end, plus_sign, right_bracket, times_sign}
use Rattle.expression.specs.declared.signs.Sign.{Sign}
use Rattle.expression.specs.declared.signs.Sign.TheVariants.{Blank, Caret, LeftBracket, LineEnd, Plus, RightBracket, Times}

abbrev pub sign_byte : Sign → ℕ
sign_byte Plus = plus_sign
sign_byte Times = times_sign
sign_byte Caret = caret
sign_byte LeftBracket = left_bracket
sign_byte RightBracket = right_bracket
sign_byte Blank = blank_byte
sign_byte LineEnd = line_end
