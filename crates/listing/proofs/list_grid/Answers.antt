-- `list_grid`: the answer's cause says which text is owed, and the mesh fits the program's buffers.
use Rattle.std.proofs.Common.{arith, sym, subst}
use Rattle.listing_words.specs.Put.{Puts}
use Rattle.listing.proofs.Mesh.{own-refused, own-mesh, own_room}
use Rattle.listing.proofs.list_grid.Goals as goal

pub returns-then-answer-ne0-clause-puts : goal.returns-then-answer-ne0-clause-puts
returns-then-answer-ne0-clause-puts c =
    let owed = own-refused c.args.header.size c.args.header.numbering c.args.samples.now c.requires.sizes.0 c.requires.sizes.1 c.requires.samples
    c.word.result c.word.ensures _ c.extract-answer.ensures.whole c.if-answer-ne0.true in
    subst (λ piece. Puts c.args.text.now piece c.put_refused.new.text) (sym owed) c.put_refused.ensures.puts

pub overflow_mul-vertices : goal.overflow_mul-vertices
overflow_mul-vertices c =
    let room = own_room c.args.header.size c.args.header.numbering c.args.samples.now c.requires.sizes.0 c.requires.sizes.1 c.requires.samples
    c.word.result c.word.ensures _ c.extract-answer.ensures.whole c.if-answer-ne0.false in
    record { fits = omega (arith, room.0, room.1) }

pub slice_bounds-vertices-end : goal.slice_bounds-vertices-end
slice_bounds-vertices-end c =
    let room = own_room c.args.header.size c.args.header.numbering c.args.samples.now c.requires.sizes.0 c.requires.sizes.1 c.requires.samples
    c.word.result c.word.ensures _ c.extract-answer.ensures.whole c.if-answer-ne0.false in
    let all = c.extract-answer.auto.vertices in omega (arith, room.0, room.1)

pub slice_bounds-put_mesh-end : goal.slice_bounds-put_mesh-end
slice_bounds-put_mesh-end c =
    let lists = own-mesh c.args.header.size c.args.header.numbering c.args.samples.now c.requires.sizes.0 c.requires.sizes.1 c.requires.samples
    c.word.result c.word.ensures _ c.extract-answer.ensures.whole c.if-answer-ne0.false in
    sym lists.made

pub slice_bounds-indices-end : goal.slice_bounds-indices-end
slice_bounds-indices-end c =
    let room = own_room c.args.header.size c.args.header.numbering c.args.samples.now c.requires.sizes.0 c.requires.sizes.1 c.requires.samples
    c.word.result c.word.ensures _ c.extract-answer.ensures.whole c.if-answer-ne0.false in
    let all = c.extract-answer.auto.indices in omega (arith, room.1)

pub slice_bounds-put_mesh-end-2 : goal.slice_bounds-put_mesh-end-2
slice_bounds-put_mesh-end-2 c =
    let lists = own-mesh c.args.header.size c.args.header.numbering c.args.samples.now c.requires.sizes.0 c.requires.sizes.1 c.requires.samples
    c.word.result c.word.ensures _ c.extract-answer.ensures.whole c.if-answer-ne0.false in
    sym lists.written

pub returns-clause-puts : goal.returns-clause-puts
returns-clause-puts c =
    let lists = own-mesh c.args.header.size c.args.header.numbering c.args.samples.now c.requires.sizes.0 c.requires.sizes.1 c.requires.samples
    c.word.result c.word.ensures _ c.extract-answer.ensures.whole c.if-answer-ne0.false in
    subst (λ piece. Puts c.args.text.now piece c.put_mesh.new.text) (sym lists.text) c.put_mesh.ensures.puts
