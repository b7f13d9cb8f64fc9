-- Inner: no public contract cites this.
-- The scheme that is handed in, before it is known to be lawful.
use Rattle.algebra.specs.Field.{Arithmetic}
use Rattle.plan.specs.Schemes.{Scheme}
use Rattle.plan.specs.declared.drafts.Draft.{Draft}

abbrev pub drafted : Arithmetic → Draft → Scheme
drafted f draft = record { arithmetic = f; carriers = draft.carriers; moduli = draft.moduli.now }
