-- The text of a list that is ready to be written.
use Rattle.std.specs.Prelude.{true, false}
use Rattle.audit_report.specs.declared.listing.Lines.{Lines}
use Rattle.audit_report.specs.declared.listing.Lines.TheVariants.{Entry, Frames}
use Rattle.audit_report.specs.Listing.{all_lines}
use Rattle.audit_report.specs.Views.{ListingView}

abbrev pub view_of : Lines → ListingView
view_of (Entry text) = record { text = text.items; entry_is_found = false }
view_of (Frames lines) = record { text = all_lines lines.form lines.base lines.found; entry_is_found = true }
