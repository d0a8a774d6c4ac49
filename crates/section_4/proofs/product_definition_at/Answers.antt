-- `section_4::product_definition_at` meets its contract: a product has a template that is known, and its valid time is one of the calendar.
use mathlib.Core.Path.{sym, ◌∙◌}
use Rattle.section_4.proofs.Tests.{product_template}
use Rattle.section_4.proofs.Laws.{later_is_gregorian}
use Rattle.section_4.proofs.product_definition_at.Goals as goal

pub product_at-requires : goal.product_at-requires
product_at-requires c =
    let template = product_template _ _ (sym c.is_product.ensures ∙ c.if-not-is_product.false) in
    (template, later_is_gregorian _ _ c.held-count.result c.octet.result c.requires (sym c.later.ensures ∙ c.in_ok-valid.was))
