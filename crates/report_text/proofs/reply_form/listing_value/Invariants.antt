use Rattle.std.proofs.Common.{◌≡◌, map, take}
use Rattle.script_text.specs.Built.{data_in}
use Rattle.report_text.specs.Replies.{listed_data}
use Rattle.report_text.proofs.reply_form.listing_value.Given as goal

abbrev pub invariant-loop-listed : goal.invariant-loop-listed
invariant-loop-listed l = data_in l.row ≡ map listed_data (take l.listed-index l.listing)
