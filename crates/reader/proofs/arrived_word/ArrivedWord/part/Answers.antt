use Rattle.std.proofs.Common.{◌≡◌, ℕ, ◌+◌, ◌-◌, [], take, drop, ap, arith}
use native.Mathlib.Decide.{dec_lt}
use Rattle.std.proofs.lemmas.List.{get_or_past}
use Rattle.plan.specs.Held.{scheme}
use Rattle.plan.specs.Schemes.{Scheme, degree, degree_of, positions, start}
use Rattle.plan.proofs.Sizes.{start_monotone, start_most, start_next, start_past}
use Rattle.reader.proofs.arrived_word.ArrivedWord.part.Goals as goal

-- A position ends where the next one starts; past the positions both are empty.
ends : (s : Scheme) (i : ℕ) → start s (i + 1) - start s i ≡ degree s i
ends s i =
    elim (dec_lt i (positions s)) [
      | yes l ↦ omega (arith, start_next s i l)
      | no l ↦
          let empty : degree s i ≡ 0 = ap degree_of (get_or_past s.moduli i [] (omega arith)) in
          omega (arith, start_past s i (omega arith), start_past s (i + 1) (omega arith), empty)
    ]

pub offset_bounds-word-start : goal.offset_bounds-word-start
offset_bounds-word-start g c =
    let p = c.args.self.now.plan.now in
    omega (arith, c.start.ensures, start_most (scheme p) c.args.i, p.lawful.short)

pub slice_bounds-result-count : goal.slice_bounds-result-count
slice_bounds-result-count g c =
    let s = scheme c.args.self.now.plan.now in
    omega (arith, c.start.ensures, c.start-2.ensures, start_monotone s c.args.i (c.args.i + 1) (omega arith))

pub slice_bounds-result-start : goal.slice_bounds-result-start
slice_bounds-result-start g c =
    let s = scheme c.args.self.now.plan.now in
    omega (arith, c.start.ensures, c.start-2.ensures, start_monotone s c.args.i (c.args.i + 1) (omega arith))

pub slice_bounds-result-end : goal.slice_bounds-result-end
slice_bounds-result-end g c =
    let p = c.args.self.now.plan.now in
    omega (arith, c.start-2.ensures, start_most (scheme p) (c.args.i + 1), p.lawful.short)

pub returns : goal.returns
returns g c =
    let s = scheme c.args.self.now.plan.now in
    let word = c.args.self.now.word.now in
    let i = c.args.i in
    rw (c.start.ensures, c.start-2.ensures) (ap (λ (k : ℕ). take k (drop (start s i) word)) (ends s i))
