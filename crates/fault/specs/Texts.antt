-- What a contract sees of a short text.
use Rattle.std.specs.Prelude.{◌≡◌, ℕ, ◌+◌, ◌<◌, ◌≤◌, List, ◌++◌, length}
use Rattle.fault.specs.declared.short_text.ShortText.{ShortText}

-- So many bytes fit.
abbrev pub most_bytes : ℕ
most_bytes = 256

-- Its bytes.
abbrev pub written : ShortText → List ℕ
written text = text.text.bytes

-- After text is appended: all of it where it fits, and else none of it.
pub record Appended (before more after : List ℕ) : Type 0 where
  pub fits : length before + length more ≤ most_bytes → after ≡ before ++ more
  pub full : most_bytes < length before + length more → after ≡ before
