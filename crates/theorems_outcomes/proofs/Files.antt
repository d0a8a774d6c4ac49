-- The contracts about whole files leave nothing open: the sections of a message, and the messages of a file.
use mathlib.Core.Path.{refl}
use Rattle.theorems_outcomes.specs.Determined.{Determined}
use Rattle.theorems_outcomes.proofs.Facts.{alike, one}
use Rattle.tiling_sections.specs.contracts as tiling_sections
use Rattle.tiling.specs.contracts as tiling

-- The sections of one message.
pub tiling_sections_section_at : Determined tiling_sections.section_at.ended (λ _ _. tiling_sections.section_at.clauses)
tiling_sections_section_at _ 𝓤 𝓛 _ _ _ _ _ _ _ _ _ _ = one 𝓤 (λ p q. (alike p q, refl))

pub tiling_sections_nowhere : Determined tiling_sections.nowhere.ended (λ _ _. tiling_sections.nowhere.clauses)
tiling_sections_nowhere _ 𝓤 𝓛 _ _ _ _ _ _ _ _ _ _ = one 𝓤 (λ p q. (alike p q, refl))

pub tiling_sections_fields_in : Determined tiling_sections.fields_in.ended (λ _ _. tiling_sections.fields_in.clauses)
tiling_sections_fields_in _ 𝓤 𝓛 _ _ _ _ _ _ _ _ _ _ = one 𝓤 (λ p q. (alike p q, refl))

-- The messages of a file.
pub tiling_header_at : Determined tiling.header_at.ended (λ _ _. tiling.header_at.clauses)
tiling_header_at _ 𝓤 𝓛 _ _ _ _ _ _ _ _ _ _ = one 𝓤 (λ p q. (alike p q, refl))

pub tiling_message_at : Determined tiling.message_at.ended (λ _ _. tiling.message_at.clauses)
tiling_message_at _ 𝓤 𝓛 _ _ _ _ _ _ _ _ _ _ = one 𝓤 (λ p q. (alike p q, refl))

pub tiling_check : Determined tiling.check.ended (λ _ _. tiling.check.clauses)
tiling_check _ 𝓤 𝓛 _ _ _ _ _ _ _ _ _ _ = one 𝓤 (λ p q. (alike p q, refl))

pub tiling_find : Determined tiling.find.ended (λ _ _. tiling.find.clauses)
tiling_find _ 𝓤 𝓛 _ _ _ _ _ _ _ _ _ _ = one 𝓤 (λ p q. (alike p.0 q.0, refl))
