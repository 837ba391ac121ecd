-- `oatmarten_c::line_calls::oat_line6` meets its contract: it is the library's. Written out so that an edit of the call is refused by what it promises.
use Rattle.oatmarten_c.proofs.line_calls.oat_line6.Goals as goal

pub returns : goal.returns
returns c = c.oat_line6.ensures
