use Rattle.std.proofs.Common.{◌∙◌, ap, sym}
use lib.Pointwise.{pointwise}
use Rattle.siit_pair.proofs.Tables.{same_entry, told6, told-entries, self-entries}
use Rattle.siit_pair.proofs.pair.have_one_table.Goals as goal

pub returns-then-eq : goal.returns-then-eq
returns-then-eq c =
    let prefix = c.prefix.ensures.value in
    let other_prefix = c.prefix-2.ensures.value in
    let entries = c.entries.ensures.value in
    let other_entries = c.entries-then-eq.ensures.value in (
      λ is. record {
        prefixes = sym prefix ∙ told6 c.prefix.result c.prefix-2.result (sym c.eq.ensures ∙ c.if-eq.true) ∙ other_prefix;
        entries = sym entries ∙ told-entries c.entries.result.now c.entries-then-eq.result.now (sym c.eq-then-eq.ensures ∙ is) ∙ other_entries;
      },
      λ table.
          c.eq-then-eq.ensures
          ∙ ap (λ l. pointwise same_entry l c.entries-then-eq.result.now) (entries ∙ table.entries ∙ sym other_entries)
          ∙ self-entries c.entries-then-eq.result.now,
    )
