-- The loops over the lines of a section: what is left to read after each line.
use Rattle.std.proofs.Common.{◌≡◌, ℕ, ◌+◌, ◌≤◌, List, [], ◌∷◌, ◌++◌, map, length, All, refl, sym, ap, ◌∙◌, subst}
use Rattle.std.proofs.lemmas.List.{length_push, map_push}
use Rattle.std.proofs.lemmas.List.Elements.{All-nil, All-push}
use Rattle.algebra.specs.Field.{Arithmetic}
use Rattle.expression.specs.Grammar.{IsModulusLine}
use Rattle.expression.specs.Lines.{LineRead}
use Rattle.expression.specs.Texts.{Got}
use Rattle.expression.specs.Values.{Expression, Value}
use Rattle.expression.specs.declared.parsed.Parsed.{Parsed}
use Rattle.rack.specs.Racks.{given_by}
use Rattle.rack.specs.declared.call.Call.{Call}
use Rattle.sheet.specs.CallLines.{CallGot}
use Rattle.sheet.specs.Grammar.{IsCallLine, Lines}
use Rattle.sheet.specs.Rooms.{HasRoom}
use Rattle.sheet.specs.Sections.{Keeps, Noted}
use Rattle.sheet.specs.declared.moduli.Moduli.{Moduli}
use Rattle.sheet.proofs.Noting.{noted_more}
use Rattle.sheet.proofs.Rows.{lines_more, lines_none}

-- The moduli read so far, and one more.
abbrev pub Read : Arithmetic → List ℕ → ℕ → ℕ → ℕ → ℕ → Moduli → Moduli → Type 0
Read f s start at k line a b =
    (es : List Expression) × Got (λ x. Lines IsModulusLine x es) s start at × (length es ≡ k) × Noted f line es a b

pub read_more : (f : Arithmetic) (s : List ℕ) (start j end k line : ℕ) (v : Value) (a b c : Moduli) → Read f s start j k line a b
    → LineRead f s j end v → Keeps (line + k) v b c → Read f s start end (k + 1) line a c
read_more f s start j end k line v a b c (es, g, n, h) r keeps = (
  es ++ r.expression ∷ [],
  lines_more IsModulusLine s start j end es r.expression g r.line,
  length_push es r.expression ∙ ap (λ m. m + 1) n,
  noted_more f line (line + k) es r.expression v a b c (ap (λ m. line + m) (sym n)) r.value_is h keeps,
)

-- The calls read so far, and one more.
pub record Called (s : List ℕ) (start at k : ℕ) (calls : List Call) : Type 0 where
  pub lines : Got (λ x. Lines IsCallLine x (map given_by calls)) s start at
  pub count : length (map given_by calls) ≡ k
  pub has_room : All HasRoom calls

pub called_none : (s : List ℕ) (start : ℕ) (calls : List Call) → start ≤ length s → calls ≡ [] → Called s start start 0 calls
called_none s start calls within none =
    subst (Called s start start 0) (sym none) (record { lines = lines_none IsCallLine s start within; count = refl; has_room = All-nil HasRoom })

pub called_more : (s : List ℕ) (start j k : ℕ) (before after : List Call) (line : Parsed Call) → Called s start j k before
    → CallGot s j line → after ≡ before ++ line.value ∷ [] → Called s start line.end (k + 1) after
called_more s start j k before after line called one e =
    let q : map given_by before ++ given_by line.value ∷ [] ≡ map given_by after = sym (ap (map given_by) e ∙ map_push given_by before line.value) in
    record {
      lines = subst (λ l. Got (λ x. Lines IsCallLine x l) s start line.end) q
          (lines_more IsCallLine s start j line.end (map given_by before) (given_by line.value) called.lines one.got);
      count = ap length (sym q) ∙ (length_push (map given_by before) (given_by line.value) ∙ ap (λ m. m + 1) called.count);
      has_room = subst (All HasRoom) (sym e) (All-push HasRoom before line.value called.has_room one.has_room);
    }
