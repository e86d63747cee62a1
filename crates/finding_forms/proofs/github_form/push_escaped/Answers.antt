use Rattle.finding_forms.proofs.github_form.push_escaped.Goals as goal

pub returns-clause-is_line : goal.returns-clause-is_line
returns-clause-is_line c = c.as_str.ensures.line
