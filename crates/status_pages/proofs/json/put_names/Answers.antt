use Rattle.status_pages.proofs.json.put_names.Goals as goal

pub returns : goal.returns
returns c = (_, c.in_ok-put_bytes.ensures, c.in_ok-put_bytes-2.ensures)
