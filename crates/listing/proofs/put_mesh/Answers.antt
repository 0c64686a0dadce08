-- `put_mesh`: the first line, the vertices and the triangles, one after another.
use Rattle.std.proofs.Common.{◌/◌, length, subst}
use Rattle.listing_words.specs.Put.{Puts}
use Rattle.listing_words.proofs.Putting.{puts_then}
use Rattle.listing_text.specs.Lines.{first_line}
use Rattle.listing.proofs.put_mesh.Goals as goal

pub returns-clause-puts : goal.returns-clause-puts
returns-clause-puts c =
    let first = subst (λ w. Puts c.args.text.now (first_line c.args.header.size w (length c.args.vertices.now / 3) (length c.args.indices.now)) c.put_first.new.text) c.word.ensures c.put_first.ensures.puts in
    puts_then (puts_then first c.put_lines.ensures.puts) c.put_lines-2.ensures.puts
