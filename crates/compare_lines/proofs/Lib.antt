mod Front
mod Numbers
