-- A sheet has one content: each of its sections tells what it holds by how the sheet goes on.
use Rattle.std.proofs.Common.{◌≡◌, [], ◌∷◌, ◌++◌, sym, ap, ◌∙◌}
use Rattle.expression.specs.declared.names.FieldName.{FieldName}
use Rattle.sheet.specs.Grammar.{Content, OneContent}
use Rattle.sheet.proofs.LineKinds.{call_kind, field_kind, modulus_kind}
use Rattle.sheet.proofs.Rows.{told_section}

content_same : (a b : Content) → a.field ≡ b.field → a.carrying ≡ b.carrying → a.spare ≡ b.spare → a.calls ≡ b.calls → a ≡ b
content_same a b e f g h =
    ap (λ v. record { field = v; carrying = a.carrying; spare = a.spare; calls = a.calls }) e
    ∙ (ap (λ v. record { field = b.field; carrying = v; spare = a.spare; calls = a.calls }) f
    ∙ (ap (λ v. record { field = b.field; carrying = b.carrying; spare = v; calls = a.calls }) g
    ∙ ap (λ v. record { field = b.field; carrying = b.carrying; spare = b.spare; calls = v }) h))

single : (a b : FieldName) → a ∷ [] ≡ b ∷ [] → a ≡ b
single a b e = cc

pub one_content : OneContent
one_content text a b h k =
    let (e, _, r) = told_section field_kind (a.field ∷ []) (b.field ∷ []) h.field_text _ k.field_text _ h.field_section k.field_section (sym h.is ∙ k.is) in
    let (f, _, s) = told_section modulus_kind a.carrying b.carrying h.carrying_text _ k.carrying_text _ h.carrying_section k.carrying_section r in
    let (g, _, t) = told_section modulus_kind a.spare b.spare h.spare_text h.calls_text k.spare_text k.calls_text h.spare_section k.spare_section s in
    let (q, _, _) = told_section call_kind a.calls b.calls h.calls_text [] k.calls_text [] h.calls_section k.calls_section (ap (λ x. x ++ []) t) in
    content_same a b (single a.field b.field e) f g q
