use Rattle.position_map.proofs.Selecting.{bytes_at, inside_by, past_bytes}
use Rattle.position_map.proofs.cuts.along_utf8.Goals as goal

pub returns-then-is_char_boundary : goal.returns-then-is_char_boundary
returns-then-is_char_boundary c = bytes_at _ _ _ c.utf8.text (c.is_char_boundary.ensures.test.0 c.if-is_char_boundary.true) c.split_at.ensures.front

pub returns-then-n-text : goal.returns-then-n-text
returns-then-n-text c = past_bytes _ _ c.utf8.text c.if-n-text.true

pub returns-else-n-text : goal.returns-else-n-text
returns-else-n-text c = inside_by _ _ _ c.utf8.text c.is_char_boundary.ensures.test c.if-is_char_boundary.false c.if-n-text.false
