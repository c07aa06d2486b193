use Rattle.lsp_message.proofs.reader.cursor.Cursor.range_length.Goals as goal

pub returns : goal.returns
returns c = (
  c.take.new.self.rest.now,
  c.take-2.new.self.rest.now,
  c.natural.new.self.rest.now,
  c.in_ok-take.ensures,
  c.in-Some.ensures,
  c.in_ok-length.ensures,
  c.in_ok-take-2.ensures,
)
